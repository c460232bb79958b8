use Rattle.std.proofs.Common.{refl}
use Rattle.api_json.proofs.WrittenLemmas.{lacks_all, lacks_one_less, lacks_rest}
use Rattle.api_json.proofs.written.words_member.Goals as goal

pub returns : goal.returns
returns c =
    lacks_rest c.last_words.ensures
    (lacks_one_less c.in_ok-begin_array.ensures
    (lacks_one_less c.in_ok-key.ensures
    (lacks_all refl)))

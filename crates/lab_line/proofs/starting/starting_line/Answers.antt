use Rattle.std.proofs.Common.{◌≡◌, ◌∙◌, sym, codes, decimal}
use Rattle.hex.specs.Hex.{encode_lower}
use Rattle.lab_line.proofs.StartLemmas.{start_joined}
use Rattle.lab_line.proofs.starting.starting_line.Goals as goal

pub returns : goal.returns
returns c =
    rw (c.from_string.ensures, c.in_ok-line.ensures.ok, c.as_str-seed.ensures.value, c.in_ok-digits.ensures, c.as_slice.ensures)
    (start_joined (codes "{\"listening\":\"127.0.0.1:") (decimal c.args.listening) (codes "\",\"control\":\"127.0.0.1:") (decimal c.args.control)
    (codes "\",\"seed\":\"") (encode_lower c.args.seed.now) (codes "\",\"moment\":") (decimal c.args.moment) (codes "}\n"))

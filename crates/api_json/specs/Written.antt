-- Bodies written token by token (RFC 8259, section 2).
use Rattle.std.specs.Prelude.{◌≡◌, ℕ, List, ◌∷◌, ◌++◌, map, OnOk, Result}
use Rattle.std.specs.Borrow.{Bor}
use Rattle.json.specs.Token.{Token, key}
use Rattle.json.specs.Tree.{json_tokens, items_tokens}
use Rattle.json.specs.Written.{Written}
use Rattle.serde_json.specs.Data.{Data}
use Rattle.serde_json.specs.Written.{outline, items_outline}
use Rattle.json_laws.specs.Pairs.{Texts, words_items}

-- the tokens of a value
abbrev pub tokens_of : Data → List Token
tokens_of d = json_tokens (outline d)

-- the tokens of a member: its key, and its value's
abbrev pub member_tokens : List ℕ → Data → List Token
member_tokens k d = key k ∷ tokens_of d

-- the tokens of the rest of a list: these words, and its end
abbrev pub last_words_tokens : List (List ℕ) → List Token
last_words_tokens words = items_tokens (items_outline (words_items words))

-- but for want of memory, these tokens are written behind those that stood there
pub record Appends {E : Type 0} (r : Result (Unit {0}) E) (old new : Written) (ts : List Token) : Type 0 where
  pub before : OnOk r (new.before ≡ old.before)
  pub tokens : OnOk r (new.tokens ≡ old.tokens ++ ts)

-- the texts behind lent keys and values
abbrev pub lent_texts : List (Bor (List ℕ) × Bor (List ℕ)) → Texts
lent_texts = map (λ e. (e.0.now, e.1.now))

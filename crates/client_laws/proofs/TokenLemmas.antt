-- The texts of the tokens, and of the value, that a text of bytes is read as are bytes.
use Rattle.std.proofs.Common.{ℕ, zero, suc, List, [], ◌∷◌, length, Bool, true, false, ◌==◌, Option, Some, None}
use Rattle.std.specs.Prelude.{IfSome, ⊤}
use Rattle.std.proofs.lemmas.List.Elements.{All-tail}
use Rattle.percent_encoding.proofs.PercentLemmas.{IsByte}
use Rattle.json.specs.Token.{Token}
use Rattle.json.specs.Text.{plain, content}
use Rattle.json.specs.Word.{head, literal, number_before, after_number, word}
use Rattle.json.specs.Lex.{Lexeme, token, comma, colon, Class, quote, backslash, operator, space, other, class, operator_lexeme, string_token, Mode, between, in_word, in_string, in_escape, lex_byte, lex, Place, fresh, after_value, after_comma, after_key, begins_colon, may_begin, may_close, if_allowed, place_token, punctuate}
use Rattle.json.specs.Json as json
use Rattle.json.specs.Json.{Json, Items, Members, Parse, parse_map, after_end_array, read_key, items_step, members_step, items, members, value_with, value}
use Rattle.json.specs.Ascii as ascii
use Rattle.client_laws.proofs.JsonByteLemmas.{Bytes, cond-good, then-good, content-good}

-- ---- tokens

abbrev pub IsToken : Token → Type 0
IsToken Token.begin_object = ⊤
IsToken Token.end_object = ⊤
IsToken Token.begin_array = ⊤
IsToken Token.end_array = ⊤
IsToken (Token.key s) = Bytes s
IsToken (Token.string s) = Bytes s
IsToken (Token.number s) = ⊤
IsToken (Token.boolean b) = ⊤
IsToken Token.null = ⊤
IsToken Token.bad = ⊤

abbrev pub AreTokens : List Token → Type 0
AreTokens [] = ⊤
AreTokens (t ∷ ts) = IsToken t × AreTokens ts

abbrev IsLexeme : Lexeme → Type 0
IsLexeme (token t) = IsToken t
IsLexeme comma = ⊤
IsLexeme colon = ⊤

abbrev AreLexemes : List Lexeme → Type 0
AreLexemes [] = ⊤
AreLexemes (l ∷ ls) = IsLexeme l × AreLexemes ls

string-good : (o : Option (List ℕ)) → IfSome o Bytes → IsToken (string_token o)
string-good None h = tt
string-good (Some s) h = h

literal-good : (name t : List ℕ) (w : Token) → IsToken w → IsToken (literal name w t)
literal-good name t w h = cond-good IsToken _ w Token.bad h tt

number-good : (t : List ℕ) (rest : Option (List ℕ)) → IsToken (number_before t rest)
number-good t None = tt
number-good t (Some rest) = cond-good IsToken _ (Token.number _) Token.bad tt tt

word-good : (t : List ℕ) → IsToken (word t)
unfolding word
word-good t =
    cond-good IsToken (head t == ascii.lower_t) _ _ (literal-good ascii.true_text t (Token.boolean true) tt)
    (cond-good IsToken (head t == ascii.lower_f) _ _ (literal-good ascii.false_text t (Token.boolean false) tt)
    (cond-good IsToken (head t == ascii.lower_n) _ _ (literal-good ascii.null_text t Token.null tt) (number-good t (after_number t))))

operator-good : (x : ℕ) → IsLexeme (operator_lexeme x)
operator-good x =
    cond-good IsLexeme (x == ascii.open_brace) (token Token.begin_object) _ tt (cond-good IsLexeme (x == ascii.close_brace) (token Token.end_object) _ tt
    (cond-good IsLexeme (x == ascii.open_bracket) (token Token.begin_array) _ tt (cond-good IsLexeme (x == ascii.close_bracket) (token Token.end_array) _ tt
    (cond-good IsLexeme (x == ascii.comma) comma colon tt tt))))

byte-good : (m : Mode) (c : Class) (x : ℕ) (xs : List ℕ) (k : Mode → List Lexeme) → Bytes xs → ((next : Mode) → AreLexemes (k next))
    → AreLexemes (lex_byte m c x xs k)
byte-good between quote x xs k h on = (string-good (content plain xs) (content-good plain xs tt h), on in_string)
byte-good between backslash x xs k h on = (tt, on in_word)
byte-good between operator x xs k h on = (operator-good x, on between)
byte-good between space x xs k h on = on between
byte-good between other x xs k h on = (word-good (x ∷ xs), on in_word)
byte-good in_word quote x xs k h on = on in_word
byte-good in_word backslash x xs k h on = on in_word
byte-good in_word operator x xs k h on = (operator-good x, on between)
byte-good in_word space x xs k h on = on between
byte-good in_word other x xs k h on = on in_word
byte-good in_string quote x xs k h on = on between
byte-good in_string backslash x xs k h on = on in_escape
byte-good in_string operator x xs k h on = on in_string
byte-good in_string space x xs k h on = on in_string
byte-good in_string other x xs k h on = on in_string
byte-good in_escape c x xs k h on = on in_string

lex-good : (m : Mode) (xs : List ℕ) → Bytes xs → AreLexemes (lex m xs)
unfolding lex
lex-good m [] h = tt
lex-good m (x ∷ xs) h =
    let rest = All-tail IsByte x xs h in
    byte-good m (class x) x xs (λ next. lex next xs) rest (λ next. lex-good next xs rest)

-- ---- commas and colons

allowed-good : (a : Bool) (t : Token) (k : Place → List Token) (next : Place) → IsToken t → AreTokens (k next) → AreTokens (if_allowed a t k next)
allowed-good true t k next h on = (h, on)
allowed-good false t k next h on = (tt, tt)

place-good : (p : Place) (t : Token) (before : Bool) (k : Place → List Token) → IsToken t → ((next : Place) → AreTokens (k next))
    → AreTokens (place_token p t before k)
place-good p Token.begin_object before k h on = allowed-good (may_begin p) Token.begin_object k fresh tt (on fresh)
place-good p Token.end_object before k h on = allowed-good (may_close p) Token.end_object k after_value tt (on after_value)
place-good p Token.begin_array before k h on = allowed-good (may_begin p) Token.begin_array k fresh tt (on fresh)
place-good p Token.end_array before k h on = allowed-good (may_close p) Token.end_array k after_value tt (on after_value)
place-good p (Token.key s) before k h on = (tt, tt)
place-good p (Token.string s) true k h on = allowed-good (may_begin p) (Token.key s) k after_key h (on after_key)
place-good p (Token.string s) false k h on = allowed-good (may_begin p) (Token.string s) k after_value h (on after_value)
place-good p (Token.number s) before k h on = allowed-good (may_begin p) (Token.number s) k after_value tt (on after_value)
place-good p (Token.boolean b) before k h on = allowed-good (may_begin p) (Token.boolean b) k after_value tt (on after_value)
place-good p Token.null before k h on = allowed-good (may_begin p) Token.null k after_value tt (on after_value)
place-good p Token.bad before k h on = (tt, tt)

punctuate-good : (p : Place) (ls : List Lexeme) → AreLexemes ls → AreTokens (punctuate p ls)
unfolding punctuate
punctuate-good fresh [] h = tt
punctuate-good after_value [] h = tt
punctuate-good after_comma [] h = (tt, tt)
punctuate-good after_key [] h = (tt, tt)
punctuate-good p (token t ∷ ls) h = place-good p t (begins_colon ls) (λ next. punctuate next ls) h.0 (λ next. punctuate-good next ls h.1)
punctuate-good fresh (comma ∷ ls) h = (tt, tt)
punctuate-good after_value (comma ∷ ls) h = punctuate-good after_comma ls h.1
punctuate-good after_comma (comma ∷ ls) h = (tt, tt)
punctuate-good after_key (comma ∷ ls) h = (tt, tt)
punctuate-good fresh (colon ∷ ls) h = (tt, tt)
punctuate-good after_value (colon ∷ ls) h = (tt, tt)
punctuate-good after_comma (colon ∷ ls) h = (tt, tt)
punctuate-good after_key (colon ∷ ls) h = punctuate-good fresh ls h.1

pub tokens-good : (text : List ℕ) → Bytes text → AreTokens (punctuate fresh (lex between text))
tokens-good text h = punctuate-good fresh (lex between text) (lex-good between text h)

-- ---- the value

abbrev mutual
  pub IsJson : Json → Type 0
  IsJson json.null = ⊤
  IsJson (json.boolean b) = ⊤
  IsJson (json.number s) = ⊤
  IsJson (json.string s) = Bytes s
  IsJson (json.array js) = AreItems js
  IsJson (json.object ms) = AreMembers ms

  pub AreItems : Items → Type 0
  AreItems json.no_items = ⊤
  AreItems (json.item j js) = IsJson j × AreItems js

  pub AreMembers : Members → Type 0
  AreMembers json.no_members = ⊤
  AreMembers (json.member k j ms) = IsJson j × AreMembers ms

-- what is read, and the tokens behind it
abbrev pub Read : {A : Type 0} → (A → Type 0) → A × List Token → Type 0
Read P p = P p.0 × AreTokens p.1

abbrev Reads : {A : Type 0} → (A → Type 0) → Parse A → Type 0
Reads P parse = (ts : List Token) → AreTokens ts → IfSome (parse ts) (Read P)

parsed : {A B : Type 0} (P : A → Type 0) (Q : B → Type 0) (f : A → B) (r : Option (A × List Token)) → IfSome r (Read P) → ((x : A) → P x → Q (f x))
    → IfSome (parse_map f r) (Read Q)
parsed P Q f None h on = tt
parsed P Q f (Some p) h on = (on p.0 h.0, h.1)

end-good : (ts : List Token) → AreTokens ts → IfSome (after_end_array ts) AreTokens
end-good [] h = tt
end-good (Token.begin_object ∷ ts) h = tt
end-good (Token.end_object ∷ ts) h = tt
end-good (Token.begin_array ∷ ts) h = tt
end-good (Token.end_array ∷ ts) h = h.1
end-good (Token.key s ∷ ts) h = tt
end-good (Token.string s ∷ ts) h = tt
end-good (Token.number s ∷ ts) h = tt
end-good (Token.boolean b ∷ ts) h = tt
end-good (Token.null ∷ ts) h = tt
end-good (Token.bad ∷ ts) h = tt

abbrev AnyKey : Option (List ℕ) → Type 0
AnyKey k = ⊤

key-good : (ts : List Token) → AreTokens ts → IfSome (read_key ts) (Read AnyKey)
key-good [] h = tt
key-good (Token.begin_object ∷ ts) h = tt
key-good (Token.end_object ∷ ts) h = (tt, h.1)
key-good (Token.begin_array ∷ ts) h = tt
key-good (Token.end_array ∷ ts) h = tt
key-good (Token.key s ∷ ts) h = (tt, h.1)
key-good (Token.string s ∷ ts) h = tt
key-good (Token.number s ∷ ts) h = tt
key-good (Token.boolean b ∷ ts) h = tt
key-good (Token.null ∷ ts) h = tt
key-good (Token.bad ∷ ts) h = tt

item-step : (p : Parse Json) (more : Parse Items) → Reads IsJson p → Reads AreItems more → (ts : List Token) → AreTokens ts
    → (end : Option (List Token)) → IfSome end AreTokens → IfSome (items_step p more ts end) (Read AreItems)
item-step p more good on ts h (Some rest) e = (tt, e)
item-step p more good on ts h None e =
    then-good (Read IsJson) (Read AreItems) (p ts) (λ q. parse_map (json.item q.0) (more q.1)) (good ts h)
    (λ q r. parsed AreItems AreItems (json.item q.0) (more q.1) (on q.1 r.1) (λ js i. (r.0, i)))

items-good : (p : Parse Json) → Reads IsJson p → (n : ℕ) → Reads AreItems (items p n)
unfolding items
items-good p good zero ts h = tt
items-good p good (suc n) ts h = item-step p (items p n) good (items-good p good n) ts h (after_end_array ts) (end-good ts h)

member-step : (p : Parse Json) (more : Parse Members) → Reads IsJson p → Reads AreMembers more → (k : Option (List ℕ)) (ts : List Token) → AreTokens ts
    → IfSome (members_step p more k ts) (Read AreMembers)
member-step p more good on None ts h = (tt, h)
member-step p more good on (Some k) ts h =
    then-good (Read IsJson) (Read AreMembers) (p ts) (λ q. parse_map (json.member k q.0) (more q.1)) (good ts h)
    (λ q r. parsed AreMembers AreMembers (json.member k q.0) (more q.1) (on q.1 r.1) (λ ms i. (r.0, i)))

members-good : (p : Parse Json) → Reads IsJson p → (n : ℕ) → Reads AreMembers (members p n)
unfolding members
members-good p good zero ts h = tt
members-good p good (suc n) ts h =
    then-good (Read AnyKey) (Read AreMembers) (read_key ts) (λ q. members_step p (members p n) q.0 q.1) (key-good ts h)
    (λ q r. member-step p (members p n) good (members-good p good n) q.0 q.1 r.1)

with-good : (a : Parse Items) (o : Parse Members) → Reads AreItems a → Reads AreMembers o → Reads IsJson (value_with a o)
with-good a o ag og [] h = tt
with-good a o ag og (Token.begin_object ∷ ts) h = parsed AreMembers IsJson json.object (o ts) (og ts h.1) (λ ms i. i)
with-good a o ag og (Token.end_object ∷ ts) h = tt
with-good a o ag og (Token.begin_array ∷ ts) h = parsed AreItems IsJson json.array (a ts) (ag ts h.1) (λ js i. i)
with-good a o ag og (Token.end_array ∷ ts) h = tt
with-good a o ag og (Token.key s ∷ ts) h = tt
with-good a o ag og (Token.string s ∷ ts) h = h
with-good a o ag og (Token.number s ∷ ts) h = (tt, h.1)
with-good a o ag og (Token.boolean b ∷ ts) h = (tt, h.1)
with-good a o ag og (Token.null ∷ ts) h = (tt, h.1)
with-good a o ag og (Token.bad ∷ ts) h = tt

pub value-good : (depth : ℕ) → Reads IsJson (value depth)
unfolding value
value-good zero = with-good (λ ts. None) (λ ts. None) (λ ts h. tt) (λ ts h. tt)
value-good (suc depth) =
    let good = value-good depth in
    with-good (λ ts. items (value depth) (length ts) ts) (λ ts. members (value depth) (length ts) ts)
    (λ ts h. items-good (value depth) good (length ts) ts h) (λ ts h. members-good (value depth) good (length ts) ts h)

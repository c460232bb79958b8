-- Lists and objects read item by item.
use Rattle.std.proofs.Common.{◌≡◌, ℕ, List, [], ◌∷◌, ◌++◌, Option, Some, None, option_map, option_and_then, refl, sym, ap, ◌∙◌, append_assoc}
use Rattle.serde_json.specs.Data.{Data, Items, item, Members, member}
use Rattle.serde_json.specs.Find.{as_str}
use Rattle.json_laws.specs.Pairs.{Texts, texts_of, words_of}
use Rattle.api_json.specs.Lists.{pairs_from, pairs_of_members}
use Rattle.engine_text.specs.declared.filter.FilterRow.{FilterRow}
use Rattle.engine_text.specs.declared.mounts.Mount.{Mount}
use Rattle.engine_text.specs.declared.pairs.Pair.{Pair}
use Rattle.journal_lines.specs.declared.fault.LineFault.{LineFault}
use Rattle.journal_lines.specs.declared.fault.LineFault.TheVariants.{BadLine, NoMemory}
use Rattle.journal_lines.specs.Reading.Parts.{IsRefusal}
use Rattle.journal_lines.specs.Reading.Lists.{mount_in, mounts_of, row_of, rows_of}

-- what was found, and what is left behind it
abbrev pub behind : {A : Type 0} → List A → Option (List A) → Option (List A)
behind found left = option_map (λ rest. found ++ rest) left

more : {A : Type 0} (xs : List A) (x : A) (left : Option (List A)) → behind (xs ++ x ∷ []) left ≡ behind xs (option_map (λ (rest : List A). x ∷ rest) left)
more xs x None = refl
more xs x (Some rest) = ap Some (append_assoc xs (x ∷ []) rest)

-- a part is refused, and so is the whole
pub refuses : {A B : Type 0} (part : Option A) (whole : Option B) (fault : LineFault) → (part ≡ None → whole ≡ None)
    → IsRefusal part fault → IsRefusal whole fault
refuses part whole BadLine gone h = gone h
refuses part whole NoMemory gone h = tt

-- one more word
pub words_more : (words : List (List ℕ)) (w : List ℕ) (d : Data) (rest : Items) → as_str d ≡ Some w
    → behind (words ++ w ∷ []) (words_of rest) ≡ behind words (words_of (item d rest))
words_more words w d rest e = rw e (more words w (words_of rest))

-- one more mount
pub mounts_more : (mounts : List Mount) (m : Mount) (d : Data) (rest : Items) → mount_in d ≡ Some m
    → behind (mounts ++ m ∷ []) (mounts_of rest) ≡ behind mounts (mounts_of (item d rest))
mounts_more mounts m d rest e =
    more mounts m (mounts_of rest)
    ∙ ap (λ (o : Option Mount). behind mounts (option_and_then (λ (x : Mount). option_map (λ (xs : List Mount). x ∷ xs) (mounts_of rest)) o)) (sym e)

-- one more pair
pair_first : (p : Pair) (left : Option Texts)
    → option_map (λ (rest : List Pair). p ∷ rest) (option_map pairs_from left) ≡ option_map pairs_from (option_map (λ (rest : Texts). (p.key, p.value) ∷ rest) left)
pair_first p None = refl
pair_first p (Some rest) = refl

pub pairs_more : (pairs : List Pair) (p : Pair) (k : List ℕ) (d : Data) (rest : Members) → p.key ≡ k → as_str d ≡ Some (p.value)
    → behind (pairs ++ p ∷ []) (pairs_of_members rest) ≡ behind pairs (pairs_of_members (member k d rest))
pairs_more pairs p k d rest same e =
    rw (e, ← same) (more pairs p (pairs_of_members rest) ∙ ap (behind pairs) (pair_first p (texts_of rest)))

-- one more row
pub rows_more : (rows : List FilterRow) (r : FilterRow) (name : List ℕ) (d : Data) (rest : Members) → row_of name d ≡ Some r
    → behind (rows ++ r ∷ []) (rows_of rest) ≡ behind rows (rows_of (member name d rest))
rows_more rows r name d rest e =
    more rows r (rows_of rest)
    ∙ ap (λ (o : Option FilterRow). behind rows (option_and_then (λ (x : FilterRow). option_map (λ (xs : List FilterRow). x ∷ xs) (rows_of rest)) o)) (sym e)

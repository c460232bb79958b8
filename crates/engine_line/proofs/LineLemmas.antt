-- What clap says of the line's words.
use Rattle.std.proofs.Common.{◌≡◌, ℕ, [], ◌∷◌, List, Bool, true, false, cond, Some, None, Result, Ok, Err, map, find, slice_get, option_and_then, IfOk, ap, refl, subst, inl, inr, ◌∙◌}
use Rattle.std.specs.Option.{option_map}
use Rattle.std.specs.Borrow.{Bor}
use Rattle.std.specs.Str.{bytes_eq}
use Rattle.clap.specs.Simple.{App, HasMatchesOf, matches_of, is_simple}
use Rattle.clap.specs.Kinds.{Kinds, FailsBy, HasKind}
use Rattle.clap.specs.Faults.{fault_of, is_simple_and_free}
use Rattle.clap.specs.Matches.{found_of}
use Rattle.clap.specs.Walk.{Row, row_of, rows_of}
use Rattle.clap.specs.Values.{kind_of}
use Rattle.clap.specs.declared.error.Error.{Error}
use Rattle.clap.specs.declared.error.kind.ErrorKind.TheVariants.{OutOfMemory}
use Rattle.clap.specs.declared.parser.matches.ArgMatches.{ArgMatches}
use Rattle.clap.specs.declared.parser.matches.MatchedArg.{MatchedArg}
use Rattle.clap.proofs.OnLiterals.{clap_on_literals}
use Rattle.engine_line.specs.Options.{line_app, fault_in, rows_in, value_in}
use Rattle.engine_line.specs.Lines.{line_in, line_by}

is_free : is_simple_and_free line_app ≡ true
unfolding clap_on_literals
is_free = refl

is_plain : is_simple line_app ≡ true
unfolding clap_on_literals
is_plain = refl

-- a command that is the line's has its faults, and its matches
pub faults_by : {T : Type 0} (a : App) (ws : List (List ℕ)) (r : Result T Error) → a ≡ line_app
    → (is_simple_and_free a ≡ true → FailsBy (fault_of a ws) r) → FailsBy (fault_in ws) r
unfolding fault_in
faults_by a ws r e h = subst (λ (b : App). FailsBy (fault_of b ws) r) e (h (ap is_simple_and_free e ∙ is_free))

pub rows_by : (a : App) (ws : List (List ℕ)) (r : Result ArgMatches Error) → a ≡ line_app
    → IfOk r (HasMatchesOf a ws) → IfOk r (λ m. rows_of (found_of m) ≡ rows_in ws)
unfolding rows_in
rows_by a ws (Ok m) e h = (h (ap is_simple e ∙ is_plain)).0 ∙ ap (λ (b : App). matches_of b ws) e
rows_by a ws (Err x) e h = tt

-- the first value of an option, as it was found and by its row
first_text : (xs : List (Bor (List ℕ))) → option_map (λ s. s.now) (slice_get xs 0) ≡ slice_get (map (λ s. s.now) xs) 0
first_text [] = refl
first_text (x ∷ xs) = refl

pub value_told : (es : List (Bor (List ℕ) × MatchedArg)) (id : List ℕ)
    → option_and_then (λ a. option_map (λ s. s.now) (slice_get a.vals.items 0)) (option_map (λ e. e.1) (find (λ e. bytes_eq e.0.now id) es))
    ≡ value_in (map row_of es) id
value_told [] id = refl
value_told (e ∷ es) id = go (bytes_eq e.0.now id) (value_told es id)
  where
    go : (t : Bool)
        → option_and_then (λ a. option_map (λ s. s.now) (slice_get a.vals.items 0)) (option_map (λ f. f.1) (find (λ f. bytes_eq f.0.now id) es)) ≡ value_in (map row_of es) id
        → option_and_then (λ a. option_map (λ s. s.now) (slice_get a.vals.items 0)) (option_map (λ f. f.1) (cond t (Some e) (find (λ f. bytes_eq f.0.now id) es)))
        ≡ option_and_then (λ r. slice_get r.values 0) (cond t (Some (row_of e)) (find (λ r. bytes_eq r.id id) (map row_of es)))
    go true h = first_text e.1.vals.items
    go false h = h

-- words without a fault ask for what their rows say, and others for nothing
pub line_ok : (ks : Kinds) (rows rows' : List Row) → ks ≡ [] → rows ≡ rows' → line_in rows ≡ line_by ks rows'
line_ok [] rows rows' is same = ap line_in same
line_ok (k ∷ ks) rows rows' is same = absurd (cc is)

pub line_none : (ks : Kinds) (rows : List Row) (e : Error) → HasKind ks e → (kind_of e ≡ OutOfMemory → ⊥) → None ≡ line_by ks rows
line_none [] rows e (inl memory) other = absurd (other memory)
line_none [] rows e (inr among) other = absurd among
line_none (k ∷ ks) rows e h other = refl

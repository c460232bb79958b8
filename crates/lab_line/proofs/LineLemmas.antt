-- What clap says of the line's words.
use Rattle.std.proofs.Common.{◌≡◌, ℕ, [], ◌∷◌, List, true, Result, Ok, Err, IfOk, ap, refl, subst, inl, inr, ◌∙◌}
use Rattle.clap.specs.Simple.{App, HasMatchesOf, matches_of, is_simple}
use Rattle.clap.specs.Kinds.{Kinds, FailsBy, HasKind}
use Rattle.clap.specs.Faults.{fault_of, is_simple_and_free}
use Rattle.clap.specs.Matches.{found_of}
use Rattle.clap.specs.Walk.{Row, rows_of}
use Rattle.clap.specs.Values.{kind_of}
use Rattle.clap.specs.declared.error.Error.{Error}
use Rattle.clap.specs.declared.error.kind.ErrorKind.TheVariants.{OutOfMemory}
use Rattle.clap.specs.declared.parser.matches.ArgMatches.{ArgMatches}
use Rattle.clap.proofs.OnLiterals.{clap_on_literals}
use Rattle.lab_line.specs.Options.{line_app, fault_in, rows_in}
use Rattle.lab_line.specs.Lines.{line_in, asked_in, asked_by, ComeTo}
use Rattle.lab_line.specs.declared.line.Asked.{Asked}

is_free : is_simple_and_free line_app ≡ true
unfolding clap_on_literals
is_free = refl

is_plain : is_simple line_app ≡ true
unfolding clap_on_literals
is_plain = refl

-- a command that is the line's has its faults, and its matches
pub faults_by : {T : Type 0} (a : App) (ws : List (List ℕ)) (r : Result T Error) → a ≡ line_app
    → (is_simple_and_free a ≡ true → FailsBy (fault_of a ws) r) → FailsBy (fault_in ws) r
unfolding fault_in
faults_by a ws r e h = subst (λ (b : App). FailsBy (fault_of b ws) r) e (h (ap is_simple_and_free e ∙ is_free))

pub rows_by : (a : App) (ws : List (List ℕ)) (r : Result ArgMatches Error) → a ≡ line_app
    → IfOk r (HasMatchesOf a ws) → IfOk r (λ m. rows_of (found_of m) ≡ rows_in ws)
unfolding rows_in
rows_by a ws (Ok m) e h = (h (ap is_simple e ∙ is_plain)).0 ∙ ap (λ (b : App). matches_of b ws) e
rows_by a ws (Err x) e h = tt

-- words without a fault ask for what their rows say
pub come_by_rows : (ks : Kinds) (rows rows' : List Row) (asked : Asked) → ks ≡ [] → rows ≡ rows' → asked ≡ asked_in (line_in rows) → ComeTo ks rows' asked
come_by_rows [] rows rows' asked is same e = e ∙ ap (λ (rs : List Row). asked_in (line_in rs)) same
come_by_rows (k ∷ ks) rows rows' asked is same e = absurd (cc is)

-- and others for what the kind of their fault says
pub come_by_kind : (ks : Kinds) (rows : List Row) (e : Error) (asked : Asked) → HasKind ks e → (kind_of e ≡ OutOfMemory → ⊥) → asked ≡ asked_by (kind_of e)
    → ComeTo ks rows asked
come_by_kind [] rows e asked (inl memory) other is = absurd (other memory)
come_by_kind [] rows e asked (inr among) other is = absurd among
come_by_kind (k ∷ ks) rows e asked (inl memory) other is = absurd (other memory)
come_by_kind (k ∷ ks) rows e asked (inr among) other is = (kind_of e, among, is)

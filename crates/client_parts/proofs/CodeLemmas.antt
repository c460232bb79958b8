-- The exit code of data that isn't null.
use Rattle.std.proofs.Common.{◌≡◌, refl, Some, None, option_map, false}
use Rattle.serde_json.specs.Data.{Data, null, boolean, number, string, array, object}
use Rattle.serde_json.specs.Find.{as_null}
use Rattle.client_model.specs.Bodies.{code_by}
use Rattle.client_model.specs.Commands.Exec.{code_or_null}
use Rattle.std.proofs.Common.{is_some, true}

pub code_not_null : (d : Data) → is_some (as_null d) ≡ false → code_or_null d ≡ option_map Some (code_by d)
code_not_null null e = absurd (cc e)
code_not_null (boolean b) e = refl
code_not_null (number n) e = refl
code_not_null (string s) e = refl
code_not_null (array ds) e = refl
code_not_null (object ms) e = refl

pub code_when_null : (d : Data) → is_some (as_null d) ≡ true → code_or_null d ≡ Some None
code_when_null null e = refl
code_when_null (boolean b) e = absurd (cc e)
code_when_null (number n) e = absurd (cc e)
code_when_null (string s) e = absurd (cc e)
code_when_null (array ds) e = absurd (cc e)
code_when_null (object ms) e = absurd (cc e)

use Rattle.std.proofs.Common.{◌≡◌, true, refl}
use Rattle.route_laws.specs.Segments.{is_table}
use Rattle.route_laws.proofs.Tables.{row_for-is, row_for-answers}
use Rattle.api_routes.specs.declared.method.Method.{Method}
use Rattle.api_routes.specs.declared.method.Method.TheVariants.{Get, Head, Post, Delete}
use Rattle.api_routes.specs.Routes.{table_of}
use Rattle.api_routes.proofs.table.law_one_route_fits.Goals as goal

good : (m : Method) → is_table (table_of m) ≡ true
good Get = refl
good Head = refl
good Post = refl
good Delete = refl

pub returns : goal.returns
returns c = λ m ss. (row_for-answers (table_of m) ss, λ r k h f. row_for-is (table_of m) ss (good m) r k h f)

-- own: each change of a life, in the words of the effects.
use Rattle.std.specs.Prelude.{ℕ, ◌==◌, List}
use Rattle.container_table.specs.Lists.{update_first}
use Rattle.engine_text.specs.declared.container.Container.{Container}
use Rattle.engine_text.specs.declared.container.Life.{Life}
pub use Rattle.container_table.specs.LifeChanges.{changed as changed_life, counted, launched as launched_at}

-- A container with its life changed.
abbrev pub renewed : (Life → Life) → Container → Container
renewed f c = record c { life = f c.life }

-- The life of the container with that number changed.
abbrev pub with_life : ℕ → (Life → Life) → List Container → List Container
with_life n f = update_first (λ c. c.number == n) (renewed f)

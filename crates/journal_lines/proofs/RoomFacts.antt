-- Which calls a journal has room for.
use Rattle.std.specs.Prelude.{◌≡◌, [], ◌∷◌, true, false, None, codes, refl, map}
use Rattle.std.specs.Fmt.{digits}
use Rattle.rand_chacha.specs.Block.{quarter_round, column_round, diagonal_round, double_rounds, block_word}
use Rattle.rand_core.specs.Steps.{u32_at}
use Rattle.hex.specs.Hex.{encode_with}
use Rattle.proc_kernel.specs.Processes.{meet_waiting, meeting_order}
use Rattle.engine_text.specs.Id.{id_of, key_bytes}
use Rattle.journal_lines.specs.Room.{places_of, has_room}
use Rattle.machine_model.proofs.Scenes.{web, charter, at, create, start, final_state}
use Rattle.engine_text.specs.declared.call.Call.{Call}
use Rattle.engine_text.specs.declared.call.Until.TheVariants as Until

-- those that give a ticket have a second place for its end
pub places : map places_of (
    Call.Stop web None None ∷ Call.Restart web None None ∷ Call.Wait web Until.Removed ∷ Call.Remove web true ∷ Call.Remove web false ∷ Call.Start web ∷ Call.JournalRead ∷ [])
    ≡ 2 ∷ 2 ∷ 2 ∷ 2 ∷ 1 ∷ 1 ∷ 1 ∷ []
places = refl

-- of a journal of three entries: after a create and a start a further call fits, a stop with its end doesn't, a take always does
pub room_of_three : map (λ (c : Call). has_room (record charter { greatest = 3 }) (final_state (create (codes "deaf" ∷ []) ∷ start 0 ∷ [])) c) (
    Call.Inspect web ∷ Call.Stop web None None ∷ Call.Remove web true ∷ Call.Remove web false ∷ Call.Take 0 ∷ Call.Drop 0 ∷ [])
    ≡ true ∷ false ∷ false ∷ true ∷ true ∷ true ∷ []
unfolding digits id_of key_bytes encode_with quarter_round column_round diagonal_round double_rounds block_word u32_at meet_waiting meeting_order
room_of_three = refl

-- an open ticket keeps the place of its end
pub room_of_tickets : map (λ n. has_room (record charter { greatest = n }) (final_state (create (codes "deaf" ∷ []) ∷ start 0 ∷ at 0 (Call.Wait web Until.NotRunning) ∷ [])) (Call.Inspect web)) (4 ∷ 5 ∷ [])
    ≡ false ∷ true ∷ []
unfolding digits id_of key_bytes encode_with quarter_round column_round diagonal_round double_rounds block_word u32_at meet_waiting meeting_order
room_of_tickets = refl

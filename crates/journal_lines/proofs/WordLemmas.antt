-- Lists of texts and of mounts: they are carried, and found again.
use Rattle.std.proofs.Common.{◌≡◌, ℕ, suc, List, [], ◌∷◌, map, Some, option_map, refl, ap}
use Rattle.serde_json.specs.View.{items_of}
use Rattle.json_laws.specs.Plain.{IsPlain, ArePlain}
use Rattle.json_laws.specs.Pairs.{words_of}
use Rattle.json_laws.specs.Sound as fit
use Rattle.json_laws.proofs.Sound.{object-sound, array-sound, string-sound, boolean-sound, unsigned-sound}
use Rattle.api_json.specs.Values.{text, list_of}
use Rattle.api_json.specs.Lists.{texts_in}
use Rattle.journal_lines.specs.Fields.{check_entry, mount_entry, CheckFitsType}
use Rattle.engine_text.specs.declared.health.HealthSpec.{HealthSpec}
use Rattle.engine_text.specs.Words.{AreUtf8}
use Rattle.engine_text.specs.Mounts.{AreMountsUtf8}
use Rattle.engine_text.specs.declared.mounts.Mount.{Mount}
use Rattle.journal_lines.specs.Reading.Lists.{mount_in, mounts_of, mounts_in}
use Rattle.journal_lines.proofs.MemberLemmas.{members}

texts_plain : (ws : List (List ℕ)) → ArePlain (items_of (map text ws))
texts_plain [] = tt
texts_plain (w ∷ ws) = (tt, texts_plain ws)

pub words_plain : (ws : List (List ℕ)) → IsPlain (list_of text ws)
words_plain ws = texts_plain ws

texts_sound : (n : ℕ) (ws : List (List ℕ)) → AreUtf8 ws → fit.AreSound n (items_of (map text ws))
texts_sound n [] u = tt
texts_sound n (w ∷ ws) u = (string-sound n w u.0, texts_sound n ws u.1)

pub words_sound : (n : ℕ) (ws : List (List ℕ)) → AreUtf8 ws → fit.IsSound (suc n) (list_of text ws)
words_sound n ws u = array-sound n (items_of (map text ws)) (texts_sound n ws u)

texts_back : (ws : List (List ℕ)) → words_of (items_of (map text ws)) ≡ Some ws
texts_back [] = refl
texts_back (w ∷ ws) = ap (option_map (λ (rest : List (List ℕ)). w ∷ rest)) (texts_back ws)

pub words_back : (ws : List (List ℕ)) → texts_in (list_of text ws) ≡ Some ws
words_back ws = texts_back ws

-- ---- mounts

mount_sound : (n : ℕ) (m : Mount) → AreMountsUtf8 (m ∷ []) → fit.IsSound (suc n) (mount_entry m)
mount_sound n m u =
    object-sound n (members (mount_entry m)) refl
    (boolean-sound n m.read_only, (string-sound n m.target u.1, (string-sound n m.volume u.0, tt)))

each_sound : (n : ℕ) (ms : List Mount) → AreMountsUtf8 ms → fit.AreSound (suc n) (items_of (map mount_entry ms))
each_sound n [] u = tt
each_sound n (m ∷ ms) u = (mount_sound n m (u.0, u.1, tt), each_sound n ms u.2)

pub mounts_sound : (n : ℕ) (ms : List Mount) → AreMountsUtf8 ms → fit.IsSound (suc (suc n)) (list_of mount_entry ms)
mounts_sound n ms u = array-sound (suc n) (items_of (map mount_entry ms)) (each_sound n ms u)

mount_back : (m : Mount) → mount_in (mount_entry m) ≡ Some m
mount_back m = refl

each_back : (ms : List Mount) → mounts_of (items_of (map mount_entry ms)) ≡ Some ms
each_back [] = refl
each_back (m ∷ ms) = ap (option_map (λ (rest : List Mount). m ∷ rest)) (each_back ms)

pub mounts_back : (ms : List Mount) → mounts_in (list_of mount_entry ms) ≡ Some ms
mounts_back ms = each_back ms

-- ---- health checks

pub check_sound : (n : ℕ) (h : HealthSpec) → CheckFitsType h → fit.IsSound (suc (suc n)) (check_entry h)
check_sound n h u =
    object-sound (suc n) (members (check_entry h)) refl
    (unsigned-sound (suc n) h.interval u.0, (unsigned-sound (suc n) h.retries u.1, (unsigned-sound (suc n) h.start_period u.2, (unsigned-sound (suc n) h.timeout u.3, (words_sound n h.words u.4, tt)))))

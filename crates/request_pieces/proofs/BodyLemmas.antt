-- A body that grows by pieces.
use Rattle.std.proofs.Common.{arith, ◌≡◌, ◌<◌, ◌≤◌, ◌⊎◌, inl, inr, ℕ, List, [], ◌∷◌, length, ◌+◌, ◌-◌, ◌++◌, take, drop, sym, ap, subst, refl, ◌∙◌, length-append, length-take, length-drop, append_assoc, append-nil, take-append-drop}
use Rattle.std.specs.Prelude.{Bool, true, false, min, nat_eq}
use Rattle.std.proofs.lemmas.Bool.{cases_lt}
use Rattle.std.proofs.lemmas.Bool.Decides.{nat_tests}
use Rattle.std.proofs.lemmas.List.{drop_all}
use Rattle.httparse.specs.declared.spans.RequestSpans.{RequestSpans}
use Rattle.engine_ports.specs.Source.{SourceView}
use Rattle.http_edge.specs.Reading.{Reached}
use Rattle.http_edge.specs.Refusal.{IsUnfinished}
use Rattle.http_edge.specs.Stored.{Stored}
use Rattle.http_edge.specs.declared.framing.Framing.TheVariants.{Length}
use Rattle.request_pieces.specs.Pieces.{view_of}
use Rattle.request_pieces.specs.Taking.{StepSays, GrowSays, IsGrown, Shows}
use Rattle.request_pieces.specs.declared.source.Piece.{Piece}
use Rattle.request_pieces.specs.declared.standing.Inside.TheVariants.{Body}
use Rattle.request_pieces.specs.declared.standing.Came.TheVariants.{Whole, Awaits}
use Rattle.request_pieces.specs.declared.standing.Step.TheVariants.{Ends}
use Rattle.request_pieces.proofs.KeepLemmas.{keeps_on, keeps_cut, keeps_shows}

-- ---- bytes move behind the body

pub no_bytes : (l : List ℕ) → length l ≡ 0 → l ≡ []
no_bytes [] e = refl
no_bytes (x ∷ xs) e = absurd (omega (arith, e))

-- all that stood ahead was taken, or nothing of the piece
one_left : (ahead more : List ℕ) (held wanted : ℕ) → held ≡ min (length ahead) wanted → length more ≤ wanted - held → (drop held ahead ≡ []) ⊎ (more ≡ [])
one_left ahead more held wanted is le = go (cases_lt held (length ahead))
  where
    go : (held < length ahead) ⊎ (length ahead ≤ held) → (drop held ahead ≡ []) ⊎ (more ≡ [])
    go (inl less) = inr (no_bytes more (omega (arith, is, le, less)))
    go (inr all) = inl (drop_all held ahead all)

swapped : (front read rest : List ℕ) → (rest ≡ []) ⊎ (read ≡ []) → (front ++ rest) ++ read ≡ (front ++ read) ++ rest
swapped front read rest (inl none) = rw (none, append-nil front, append-nil (front ++ read)) refl
swapped front read rest (inr none) = rw (none, append-nil front, append-nil (front ++ rest)) refl

module _ (until : ℕ) (old new ahead ahead' : List ℕ) (p q : Piece) (held wanted : ℕ) (part : length old ≤ until) (wanted_is : wanted ≡ until - length old)
    (held_is : held ≡ min (length ahead) wanted) (ahead_is : ahead' ≡ drop held ahead) (rest_is : q.rest.now ≡ drop (wanted - held) p.rest.now) (ends_is : q.ends ≡ p.ends)
    (new_is : new ≡ (old ++ take held ahead) ++ take (wanted - held) p.rest.now) where
  abbrev more : List ℕ
  more = take (wanted - held) p.rest.now

  moved : Reached ahead (view_of p) (view_of q) (λ bytes. bytes ≡ (take held ahead ++ more) ++ ahead')
  moved = record {
    read = more;
    gave = record {
      gave = sym (take-append-drop (wanted - held) p.rest.now) ∙ ap (λ l. more ++ l) (sym rest_is);
      faults = omega arith;
      ends = omega (arith, ends_is);
    };
    holds = ap (λ l. l ++ more) (sym (take-append-drop held ahead))
        ∙ swapped (take held ahead) more (drop held ahead) (one_left ahead more held wanted held_is (omega (arith, length-take (wanted - held) p.rest.now)))
        ∙ ap (λ l. (take held ahead ++ more) ++ l) (sym ahead_is);
  }

  new_len : length new ≡ length old + length (take held ahead) + length more
  new_len = omega (arith, ap length new_is, length-append (old ++ take held ahead) more, length-append old (take held ahead))

  grows_by : length new < until → IsGrown false until new ahead' (view_of q)
  grows_by less = (
    less,
    no_bytes ahead' (omega (arith, less, new_len, wanted_is, held_is, part, ap length ahead_is, length-drop held ahead, length-take held ahead, length-take (wanted - held) p.rest.now)),
    no_bytes q.rest.now (omega (arith, less, new_len, wanted_is, held_is, part, ap length rest_is, length-drop (wanted - held) p.rest.now, length-take held ahead, length-take (wanted - held) p.rest.now)),
  )

  fits : length new ≤ until
  fits = omega (arith, new_len, wanted_is, held_is, part, length-take held ahead, length-take (wanted - held) p.rest.now)

  pub grows : (n : ℕ) → n ≡ length new → GrowSays (nat_eq n until) until old new ahead ahead' (view_of p) (view_of q)
  grows n is = (take held ahead ++ more, new_is ∙ append_assoc old (take held ahead) more, moved, go (nat_eq n until) refl)
    where
      go : (t : Bool) → nat_eq n until ≡ t → IsGrown t until new ahead' (view_of q)
      go true e = let same : n ≡ until = grind (arith, nat_tests) in omega (arith, same, is)
      go false e =
          let most = fits in
          let len = is in
          let less : length new < until = grind (arith, nat_tests) in
          grows_by less

-- ---- a body of so many bytes

-- behind a head and some bytes, what was moved
pub regrouped : (head read all more rest : List ℕ) → all ≡ more ++ rest → head ++ (read ++ all) ≡ head ++ ((read ++ more) ++ rest)
regrouped head read all more rest e = ap (λ l. head ++ l) (ap (λ l. read ++ l) e ∙ sym (append_assoc read more rest))

pub longer : (head read ahead more : List ℕ) → (head ++ (read ++ ahead)) ++ more ≡ head ++ (read ++ (ahead ++ more))
longer head read ahead more = append_assoc head (read ++ ahead) more ∙ ap (λ l. head ++ l) (append_assoc read ahead more)

module _ (r : RequestSpans) (size : ℕ) (b c : Stored) (ahead ahead' : List ℕ) (s s' : SourceView) (heads : c.head ≡ b.head) (spans : c.spans ≡ b.spans) where
  -- the bytes, as they stand now
  grown : (bytes read more : List ℕ) → bytes ≡ b.head ++ (b.body ++ ahead) → c.body ≡ b.body ++ more → ahead ++ read ≡ more ++ ahead' → bytes ++ read ≡ c.head ++ (c.body ++ ahead')
  grown bytes read more is grew e =
      ap (λ l. l ++ read) is ∙ longer b.head b.body ahead read ∙ regrouped b.head b.body (ahead ++ read) more ahead' e
      ∙ ap (λ l. l ++ ((b.body ++ more) ++ ahead')) (sym heads) ∙ ap (λ l. c.head ++ (l ++ ahead')) (sym grew)

  pub body_whole : GrowSays true size b.body c.body ahead ahead' s s' → StepSays (Ends (Whole r)) (Body r size) b ahead c ahead' s s'
  body_whole g bytes h =
      let x = g.2 in
      record {
        read = x.read;
        gave = x.gave;
        holds = subst (Shows c r ahead') (sym (grown bytes x.read g.0 h.3 g.1 x.holds))
            (keeps_shows c r (Length size) (keeps_on b c r (Length size) heads spans h.0) c.body ahead' (refl, g.3));
      }

  pub body_part : GrowSays false size b.body c.body ahead ahead' s s' → StepSays (Ends (Awaits (Body r size))) (Body r size) b ahead c ahead' s s'
  body_part g bytes h =
      let x = g.2 in
      let now = grown bytes x.read g.0 h.3 g.1 x.holds in
      let k = keeps_on b c r (Length size) heads spans h.0 in
      let less = g.3.0 in
      record {
        read = x.read;
        gave = x.gave;
        holds = (
          (k, omega (arith, less), h.2, now),
          inr (subst IsUnfinished (sym now) (keeps_cut c r (Length size) k (c.body ++ ahead') (omega (arith, less, length-append c.body ahead', ap length g.3.1)))),
          g.3.2,
        );
      }

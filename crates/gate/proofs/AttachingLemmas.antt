-- The links that were attached are new.
use Rattle.std.proofs.Common.{◌≡◌, ℕ, List, [], ◌∷◌, length, map, Option, Some, None, refl, sym, ap, subst, ◌∙◌}
use Rattle.std.proofs.lemmas.List.{length-map}
use Rattle.attached_links.specs.Attaching.{AllAttached, AllFresh, AreFirst, AreNext, PortsSide, seat_of}
use Rattle.attached_links.specs.declared.attached.AttachedLink.{AttachedLink}
use Rattle.attached_links.specs.declared.attached.Seat.{Seat}
use Rattle.outside.specs.Ports.{next_link}
use Rattle.outside.specs.declared.link.Link as link_trait
use Rattle.outside.specs.declared.link.PollAnswer.{PollAnswer}
use Rattle.gate.specs.declared.lines.Timers.{Timers}
use Rattle.gate.specs.Attaching as gates
use Rattle.gate.specs.Attaching.{AreNew, first_links, none_failed}
use Rattle.gate.specs.Sides.{LinkSeen, lines_seen}

module _ {L : Type 0} (l : link_trait.Ghosts L) where
  are_first : (polls : List (List PollAnswer)) (xs : List (AttachedLink L Timers)) (left : Option (List (List PollAnswer)))
      → AllFresh l xs → AreFirst l polls xs left → lines_seen l xs ≡ first_links (length xs) polls
  are_first polls [] left fresh first = refl
  are_first polls (x ∷ xs) left fresh first =
      ap (λ (o : Option (List PollAnswer)). let k : LinkSeen = record { answers = o; faults = l.fault_count x.link } in k ∷ lines_seen l xs) first.0
      ∙ ap (λ (m : ℕ). let k : LinkSeen = record { answers = Some (next_link polls); faults = m } in k ∷ lines_seen l xs) fresh.0.faults
      ∙ ap (λ (ks : List LinkSeen). let k : LinkSeen = record { answers = Some (next_link polls); faults = 0 } in k ∷ ks)
      (are_first _ xs left fresh.1 first.2)

  are_next : (to_come left : Option (List (List PollAnswer))) (xs : List (AttachedLink L Timers)) → AllFresh l xs
      → AreNext l to_come xs left → gates.AreFirst (length xs) to_come (lines_seen l xs)
  are_next None left xs fresh next = tt
  are_next (Some polls) left xs fresh next = are_first polls xs left fresh next

  none_failed_yet : (xs : List (AttachedLink L Timers)) → AllFresh l xs → map (λ x. x.faults) (lines_seen l xs) ≡ none_failed (length xs)
  none_failed_yet [] fresh = refl
  none_failed_yet (x ∷ xs) fresh =
      ap (λ (m : ℕ). m ∷ map (λ (k : LinkSeen). k.faults) (lines_seen l xs)) fresh.0.faults
      ∙ ap (λ (ns : List ℕ). 0 ∷ ns) (none_failed_yet xs fresh.1)

  pub are_new : (seats : List (Seat Timers)) (count : ℕ) (old new : PortsSide L) (xs : List (AttachedLink L Timers)) → length seats ≡ count
      → AllAttached l seats old new xs → AreNew count old.to_come (lines_seen l xs)
  are_new seats count old new xs same all =
      let each : length xs ≡ count = sym (length-map xs seat_of) ∙ ap length all.are_at ∙ same in
      subst (λ (n : ℕ). AreNew n old.to_come (lines_seen l xs)) each
      (record { first = are_next old.to_come new.to_come xs all.fresh all.next; faults = none_failed_yet xs all.fresh })

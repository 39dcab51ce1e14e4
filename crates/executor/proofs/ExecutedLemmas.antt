-- One more executed slot, and one less.
use Rattle.std.proofs.Common.{◌≡◌, ℕ, ◌+◌, ◌<◌, ◌≤◌, List, [], ◌∷◌, ◌++◌, length, take, Option, Some, None, refl, sym, ap, subst}
use Rattle.std.proofs.Common.{suc, add-one, ◌∙◌, inl, inr, arith}
use Rattle.std.specs.Prelude.{◌⊎◌, slice_get}
use Rattle.std.proofs.lemmas.Option.{slice_get_within}
use Rattle.std.proofs.lemmas.Bool.Decides.{eqb_tells}
use Rattle.std.proofs.lemmas.List.{length_push}
use Rattle.nop_types.specs.declared.request.Entry.{Entry}
use Rattle.nop_types.specs.Meaning.{Meaning}
use Rattle.nop_types.specs.Execution.{Executed, exec_kept, enter_kept}
use Rattle.lemmas.proofs.Places.{Splits-at, slice_get-some, slice_get-append_within, slice_get-append_at}
use Rattle.execution_laws.proofs.Steps.{exec_kept_of_append}
use Rattle.executor.specs.declared.slot_undo.SlotUndo.{SlotUndo}
use Rattle.client_table.specs.Table.{AllKept}
use Rattle.executor.specs.Undoing.{slot_undo_of, undone_by, IsExecuted, UndoFits, UndosFit, MayUnkeep}
use Rattle.executor.proofs.UndoLemmas.{goes_back, exec_all_kept, may_unkeep}

module _ {S U : Type 0} (m : Meaning S) (undo_of : S → List ℕ → U) (begun : Executed S) (entries : List Entry) where
  -- what the first entries leave
  abbrev after : ℕ → Executed S
  after n = exec_kept m begun (take n entries)

  -- one more entry is one more step
  next_entry : (i : ℕ) (e : Entry) → slice_get entries i ≡ Some e → after (i + 1) ≡ enter_kept m (after i) e
  next_entry i e h =
      let s : take (suc i) entries ≡ take i entries ++ e ∷ [] = (Splits-at entries i e h).prefix in
      rw (add-one, s) (exec_kept_of_append m begun (take i entries) (e ∷ []))

  -- before the first slot
  pub executed_nothing : (x : Executed S) → AllKept begun.table → x ≡ begun → IsExecuted m undo_of begun entries x []
  executed_nothing x kept e = record {
    kept = kept;
    within = omega arith;
    execution = e;
    undoing = λ i e less. absurd (omega (arith, less));
  }

  -- one more slot
  pub executed_next : (x x' : Executed S) (undos : List (Option (SlotUndo U))) (e : Entry) (s : Option (SlotUndo U))
      → IsExecuted m undo_of begun entries x undos → slice_get entries (length undos) ≡ Some e
      → x' ≡ enter_kept m x e → s ≡ slot_undo_of undo_of x e → IsExecuted m undo_of begun entries x' (undos ++ s ∷ [])
  executed_next x x' undos e s h at next slot_undo =
      let more : length (undos ++ s ∷ []) ≡ length undos + 1 = length_push undos s in
      record {
        kept = h.kept;
        within = let less = slice_get_within entries (length undos) e at in omega arith;
        execution = rw (next, h.execution, more) (sym (next_entry (length undos) e at));
        undoing = λ i d less is. elim (split i (rw more at less)) [
          | inl l ↦ slice_get-append_within undos (s ∷ []) i l ∙ h.undoing i d l is
          | inr same ↦
              let here : e ≡ d = let a = rw same at is in cc in
              rw (same, slot_undo, h.execution, here) (slice_get-append_at undos (slot_undo_of undo_of (after (length undos)) d) [])
        ];
      }
    where
      split : (i : ℕ) → i < length undos + 1 → (i < length undos) ⊎ (i ≡ length undos)
      split i l = elim (eqb_tells i (length undos)) [ inl p ↦ inr p.1 | inr p ↦ inl (omega arith) ]

  -- the last slot, and what was before it
  record Last (x : Executed S) (undos : List (Option (SlotUndo U))) (s : Option (SlotUndo U)) : Type 0 where
    entry : Entry
    at : slice_get entries (length undos) ≡ Some entry
    slot_undo : s ≡ slot_undo_of undo_of (after (length undos)) entry
    here : x ≡ enter_kept m (after (length undos)) entry
    before : IsExecuted m undo_of begun entries (after (length undos)) undos

  last : (x : Executed S) (undos : List (Option (SlotUndo U))) (s : Option (SlotUndo U))
      → IsExecuted m undo_of begun entries x (undos ++ s ∷ []) → Last x undos s
  last x undos s h =
      let more : length (undos ++ s ∷ []) ≡ length undos + 1 = length_push undos s in
      let within : length (undos ++ s ∷ []) ≤ length entries = h.within in
      let e = slice_get-some entries (length undos) (omega arith) in
      record {
        entry = e.0;
        at = e.1;
        slot_undo = let a = slice_get-append_at undos s [] in let b = h.undoing (length undos) e.0 (omega arith) e.1 in cc;
        here = h.execution ∙ ap after more ∙ next_entry (length undos) e.0 e.1;
        before = record {
          kept = h.kept;
          within = omega arith;
          execution = refl;
          undoing = λ i d less is. sym (slice_get-append_within undos (s ∷ []) i less) ∙ h.undoing i d (omega arith) is;
        };
      }

  -- each client has what may be kept, on the way
  kept_after : AllKept begun.table → (n : ℕ) → AllKept (after n).table
  kept_after all n = exec_all_kept m begun (take n entries) all

  -- the result of the last slot may be taken out
  pub last_may_unkeep : (x : Executed S) (undos : List (Option (SlotUndo U))) (s : Option (SlotUndo U))
      → IsExecuted m undo_of begun entries x (undos ++ s ∷ []) → MayUnkeep x.table s
  last_may_unkeep x undos s h =
      let l = last x undos s h in
      along x _ s _ l.here l.slot_undo (may_unkeep m undo_of (after (length undos)) (kept_after h.kept (length undos)) l.entry)
    where
      along : (x y : Executed S) (s t : Option (SlotUndo U)) → x ≡ y → s ≡ t → MayUnkeep y.table t → MayUnkeep x.table s
      along x y s t e f h = rw (e, f) h

  -- one slot back
  pub executed_before : (undone : S → U → S) → ((s : S) (op : List ℕ) → undone (m.after s op) (undo_of s op) ≡ s)
      → (x x' : Executed S) (undos : List (Option (SlotUndo U))) (s : Option (SlotUndo U))
      → IsExecuted m undo_of begun entries x (undos ++ s ∷ []) → x' ≡ undone_by undone x s → IsExecuted m undo_of begun entries x' undos
  executed_before undone undoes x x' undos s h e =
      let l = last x undos s h in
      let before : Executed S = after (length undos) in
      let along : undone_by undone x s ≡ undone_by undone (enter_kept m before l.entry) (slot_undo_of undo_of before l.entry) =
      λ i. undone_by undone (l.here i) (l.slot_undo i) in
      let same : x' ≡ before = e ∙ along ∙ goes_back m undo_of undone undoes before l.entry (kept_after h.kept (length undos)) in
      subst (λ (y : Executed S). IsExecuted m undo_of begun entries y undos) (sym same) l.before

-- ---- what the host has the room to undo

module _ {U : Type 0} where
  pub fit_push : (fits : U → Type 0) (undos : List (Option (SlotUndo U))) (s : Option (SlotUndo U)) → UndosFit fits undos → UndoFits fits s
      → UndosFit fits (undos ++ s ∷ [])
  fit_push fits [] s h k = (k, tt)
  fit_push fits (t ∷ undos) s h k = (h.0, fit_push fits undos s h.1 k)

  pub fit_prefix : (fits : U → Type 0) (undos : List (Option (SlotUndo U))) (s : Option (SlotUndo U)) → UndosFit fits (undos ++ s ∷ [])
      → UndosFit fits undos × UndoFits fits s
  fit_prefix fits [] s h = (tt, h.0)
  fit_prefix fits (t ∷ undos) s h = let k = fit_prefix fits undos s h.1 in ((h.0, k.0), k.1)

  one_stays : (fits still : U → Type 0) → ((u : U) → fits u → still u) → (s : Option (SlotUndo U)) → UndoFits fits s → UndoFits still s
  one_stays fits still f None h = tt
  one_stays fits still f (Some s) h = f s.undo h

  pub fit_still : (fits still : U → Type 0) → ((u : U) → fits u → still u) → (undos : List (Option (SlotUndo U))) → UndosFit fits undos
      → UndosFit still undos
  fit_still fits still f [] h = tt
  fit_still fits still f (s ∷ undos) h = (one_stays fits still f s h.0, fit_still fits still f undos h.1)

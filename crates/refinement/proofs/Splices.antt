-- What is synchronised stays, so rows may leave it alone.
use Rattle.std.proofs.Common.{◌≡◌, ℕ, zero, suc, ◌<◌, ◌≤◌, Bool, true, false, cond, List, [], ◌∷◌, ◌++◌, take, drop, refl, sym, ap, subst, ◌∙◌}
use Rattle.std.proofs.Common.{arith, length}
use Rattle.std.proofs.lemmas.Bool.{leb-true}
use Rattle.std.proofs.lemmas.List.{take-append-drop, take-append-le}
use Rattle.std.specs.Prelude.{nat_le, nat_lt, slice_set}
use Rattle.nop_types.specs.declared.request.Entry.{Entry}
use Rattle.nop_types.specs.declared.request.Entry.TheVariants.{NoOp}
use Rattle.nop_types.specs.declared.view.View.{View}
use Rattle.nop_types.specs.Logs.{Log, Whole, adopted, overlaid, with_noop}
use Rattle.nop_types.specs.Meaning.{Meaning}
use Rattle.nop_types.specs.PlainChanges.{Change}
use Rattle.nop_types.specs.Slots.{laid, set_slot}
use Rattle.lemmas.proofs.Functions.{put-here}
use Rattle.lemmas.proofs.Slots.{laid-append}
use Rattle.log_merge.specs.Starting.{start_of}
use Rattle.replica_state.specs.declared.state.ReplicaState.{ReplicaState}
use Rattle.replica_state.specs.Moves.{gap_written}
use Rattle.replica_state.specs.State.{PointsMeet}
use Rattle.view_change.specs.Gathering.{Gathering}
use Rattle.protocol.specs.Conf.{Conf}
use Rattle.protocol.specs.LocalState.{LocalState}
use Rattle.protocol.specs.Moves.{MayAdopt, MayOpenView, MayOverlay, MayWriteGap}
use Rattle.protocol.specs.Runs.{Act, Adopt, OpenView, Overlay, WriteGap, Acts, effect, MayAct}
use Rattle.protocol_sync.proofs.Rising.{sync_points_never_fall}
use Rattle.refinement.specs.Projection.{local_state_of}
use Rattle.refinement.specs.Replicas.{Matches}

-- ---- logs that begin alike

-- the own entries up to the own sync point begin this list
abbrev pub Begins : Log → List Entry → Type 0
Begins own l = take own.sync_point own.entries ≡ take own.sync_point l

same_spliced : (n : ℕ) (own l : List Entry) → take n own ≡ take n l → take n own ++ drop n l ≡ l
same_spliced n own l e = ap (λ (t : List Entry). t ++ drop n l) e ∙ take-append-drop n l

adopted_at : (b : Bool) (new own : Log) → Begins own new.entries
    → take (cond b new own).sync_point (cond b new own).entries ++ drop (cond b new own).sync_point new.entries ≡ new.entries
adopted_at true new own same = take-append-drop new.sync_point new.entries
adopted_at false new own same = same_spliced own.sync_point own.entries new.entries same

-- where the own log begins as the new one does, the new one is taken
pub adopted_entries : (new own : Log) → Begins own new.entries → (adopted Whole new own).entries ≡ new.entries
adopted_entries new own same = adopted_at (nat_lt own.sync_point new.sync_point) new own same

laid_none : (l : List Entry) → l ≡ laid l []
laid_none [] = refl
laid_none (x ∷ xs) = refl

drop-laid : (n : ℕ) (l k : List Entry) → drop n (laid l k) ≡ laid (drop n l) (drop n k)
drop-laid zero l k = refl
drop-laid (suc n) [] k = refl
drop-laid (suc n) (x ∷ xs) [] = laid_none (drop n xs)
drop-laid (suc n) (x ∷ xs) (y ∷ ys) = drop-laid n xs ys

-- what is laid over the own log begins it
take-laid : (n : ℕ) (l k : List Entry) → n ≤ length l → take n (laid l k) ≡ take n l
take-laid n l k low = ap (λ (t : List Entry). take n t) (laid-append l k) ∙ take-append-le n l (drop (length l) k) low

overlaid_at : (b : Bool) (new own : Log) → new.sync_point ≤ length new.entries → Begins own (laid new.entries own.entries)
    → take (cond b new own).sync_point (cond b new own).entries
    ++ laid (drop (cond b new own).sync_point new.entries) (drop (cond b new own).sync_point own.entries)
    ≡ laid new.entries own.entries
overlaid_at true new own low same =
    let n : ℕ = new.sync_point in
    let all : List Entry = laid new.entries own.entries in
    ap (λ (t : List Entry). t ++ laid (drop n new.entries) (drop n own.entries)) (sym (take-laid n new.entries own.entries low))
    ∙ ap (λ (t : List Entry). take n all ++ t) (sym (drop-laid n new.entries own.entries))
    ∙ take-append-drop n all
overlaid_at false new own low same =
    let n : ℕ = own.sync_point in
    ap (λ (t : List Entry). take n own.entries ++ t) (sym (drop-laid n new.entries own.entries))
    ∙ same_spliced n own.entries (laid new.entries own.entries) same

pub overlaid_entries : (new own : Log) → new.sync_point ≤ length new.entries → Begins own (laid new.entries own.entries)
    → (overlaid Whole new own).entries ≡ laid new.entries own.entries
overlaid_entries new own low same = overlaid_at (nat_lt own.sync_point new.sync_point) new own low same

drop-set : (n i : ℕ) (e : Entry) (xs : List Entry) → i < n → drop n (slice_set xs i e) ≡ drop n xs
drop-set zero i e xs h = absurd (omega (arith, h))
drop-set (suc n) zero e [] h = refl
drop-set (suc n) zero e (x ∷ xs) h = refl
drop-set (suc n) (suc i) e [] h = refl
drop-set (suc n) (suc i) e (x ∷ xs) h = drop-set n i e xs (omega (arith, h))

drop-set_slot : (n k : ℕ) (e : Entry) (xs : List Entry) → k ≤ n → drop n (set_slot xs k e) ≡ drop n xs
drop-set_slot n zero e xs h = refl
drop-set_slot n (suc i) e xs h = drop-set n i e xs (omega (arith, h))

-- ---- what rows leave alone is what the moves put there

module _ {S : Type 0} (m : Meaning S) (f : ℕ) (c : Conf) (r : ℕ) (s : ReplicaState) (h : Matches m f c r s) where
  -- a move may be made where the replica stands
  here : (a : Act) → MayAct f c (local_state_of s) a → MayAct f c (c.replicas r) a
  here a may = subst (λ (q : LocalState). MayAct f c q a) (sym h.state) may

  -- a move leaves the entries up to the sync point
  stays : (a : Act) → MayAct f c (local_state_of s) a → Begins s.log (effect m (local_state_of s) a).state.log
  stays a may =
      let rises = sync_points_never_fall m f c (Acts r a ∷ []) h.inv h.sync ((h.within, here a may), tt) in
      subst (λ (n : ℕ). take n s.log.entries ≡ take n (effect m (local_state_of s) a).state.log) (sym h.points)
      (subst (λ (q : LocalState). take q.sync.sync_point q.log ≡ take q.sync.sync_point (effect m q a).state.log) h.state
      (rises.prefixes r h.within
      ∙ ap (λ (q : LocalState). take (c.replicas r).sync.sync_point q.log) (put-here c.replicas r (effect m (c.replicas r) a).state)))

  pub adopt_begins : (v : View) (x : ℕ) (l : Log) → MayAdopt c (local_state_of s) v x l.sync_point l.entries → Begins s.log l.entries
  adopt_begins v x l may = stays (Adopt v x l.sync_point l.entries) may

  pub open_begins : (g : Gathering Change) → MayOpenView (local_state_of s) g → Begins s.log (start_of g.view g.changes).log
  open_begins g may = stays (OpenView g) may

  pub overlay_begins : (l : Log) → MayOverlay c (local_state_of s) l.sync_point l.entries → Begins s.log (laid l.entries s.log.entries)
  overlay_begins l may = stays (Overlay l.sync_point l.entries) may

  -- a synchronised slot has the NO-OP already
  gap_there : (n : ℕ) → MayWriteGap c (local_state_of s) n → n ≤ s.log.sync_point → s.log.entries ≡ set_slot s.log.entries n NoOp
  gap_there n may low =
      let point : ℕ = s.log.sync_point in
      sym (take-append-drop point s.log.entries)
      ∙ ap (λ (t : List Entry). t ++ drop point s.log.entries) (stays (WriteGap n) may)
      ∙ ap (λ (t : List Entry). take point (set_slot s.log.entries n NoOp) ++ t)
      (sym (drop-set_slot point n NoOp s.log.entries low))
      ∙ take-append-drop point (set_slot s.log.entries n NoOp)

  gap_at : (b : Bool) (n : ℕ) → MayWriteGap c (local_state_of s) n → nat_le n s.sync.sync_point ≡ b
      → (cond b s.log (with_noop Whole s.log n)).entries ≡ set_slot s.log.entries n NoOp
  gap_at true n may e = gap_there n may (subst (λ (k : ℕ). n ≤ k) (sym h.points) (leb-true n s.sync.sync_point e))
  gap_at false n may e = refl

  pub gap_entries : (n : ℕ) → MayWriteGap c (local_state_of s) n → (gap_written Whole s n).log.entries ≡ set_slot s.log.entries n NoOp
  gap_entries n may = gap_at (nat_le n s.sync.sync_point) n may refl

  -- and the sync point stays
  gap_meets_at : (b : Bool) (n : ℕ) → (cond b s.log (with_noop Whole s.log n)).sync_point ≡ s.log.sync_point
  gap_meets_at true n = refl
  gap_meets_at false n = refl

  pub gap_meets : (n : ℕ) → PointsMeet (gap_written Whole s n)
  gap_meets n = gap_meets_at (nat_le n s.sync.sync_point) n ∙ h.points

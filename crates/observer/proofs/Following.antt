-- A host and a table go on as the trimmed log that they were left by.
use Rattle.std.proofs.Common.{◌≡◌, ℕ, ◌-◌, ◌+◌, ◌≤◌, ◌<◌, Bool, true, false, cond, List, [], length, take, drop, Option, Some, None}
use Rattle.std.proofs.Common.{refl, sym, ap, subst, ◌∙◌, arith}
use Rattle.std.specs.Prelude.{slice_range, nat_le, nat_lt, is_some, IfSome}
use Rattle.std.specs.Option.{option_map, unwrap_or}
use Rattle.std.specs.FinMap as finite
use Rattle.std.proofs.lemmas.Bool.{and_parts}
use Rattle.std.proofs.lemmas.Bool.Decides.{nat_tests}
use Rattle.std.proofs.lemmas.List.{take_all, drop_all, length-take}
use Rattle.std.proofs.lemmas.Option.{same_Some}
use Rattle.nop_types.specs.declared.request.Entry.{Entry}
use Rattle.nop_types.specs.declared.view.View.{View}
use Rattle.nop_types.specs.Checkpoints.{Checkpoint, CheckpointFits, KeepsTo, checkpoint_of, loaded_of, are_saved}
use Rattle.nop_types.specs.CheckpointedLogs.{beginning, executed}
use Rattle.nop_types.specs.Execution.{Executed, opening, exec_kept}
use Rattle.nop_types.specs.Logs.{Log, Trimmed, first}
use Rattle.nop_types.specs.Meaning.{Meaning}
use Rattle.nop_types.specs.Ranges.{LogFits}
use Rattle.nop_types.specs.Views.{is_view}
use Rattle.execution_laws.proofs.Saving.{checkpoint_loads}
use Rattle.observer.specs.Observing.{Observing, Candidate, known_with, followed, may_follow, commit, commit_by, commit_if}
use Rattle.observer.specs.Known.{log_of}
use Rattle.observer.proofs.Saved.{entries_of_saved}

module _ {S : Type 0} (m : Meaning S) (IsSound : S → Type 0) (keeps : KeepsTo m IsSound) where
  -- ---- what an execution left

  begins_saved : (x : Executed S) → IsSound x.host → beginning m (Some (checkpoint_of m x)) ≡ x
  begins_saved x sound = ap (λ (o : Option (Executed S)). unwrap_or o (opening m)) (checkpoint_loads m IsSound keeps x sound)

  begins_by : (b : Bool) (x : Executed S) → IsSound x.host → (b ≡ false → x ≡ opening m)
      → beginning m (cond b (Some (checkpoint_of m x)) None) ≡ x
  begins_by true x sound opens = begins_saved x sound
  begins_by false x sound opens = sym (opens refl)

  -- the execution goes on from the log that it left
  begins : (n : ℕ) (x : Executed S) → IsSound x.host → (n ≡ 0 → x ≡ opening m) → beginning m (log_of m n x).checkpoint ≡ x
  begins n x sound opens = begins_by (nat_lt 0 n) x sound (λ e. opens (let z = e in grind (arith, nat_tests, z)))

  -- which ends there
  pub executed_is : (n : ℕ) (x : Executed S) → IsSound x.host → (n ≡ 0 → x ≡ opening m) → executed m Trimmed (log_of m n x) n ≡ x
  executed_is n x sound opens =
      ap (exec_kept m (beginning m (log_of m n x).checkpoint)) (take_all (n - n) [] (omega arith)) ∙ begins n x sound opens

  -- ---- a checkpoint is taken

  clients_saved : (c : Checkpoint) → CheckpointFits c → are_saved 0 c.clients ≡ true
  clients_saved c fits = (and_parts _ (are_saved 0 c.clients) (and_parts _ _ fits.limits).1).1

  saved_by : (c : Checkpoint) (x : Executed S) → CheckpointFits c → (o : Option S) → m.loaded c.host ≡ o
      → option_map (λ host. record { host = host; table = finite.from_entries c.clients }) o ≡ Some x → checkpoint_of m x ≡ c
  saved_by c x fits None is e = absurd cc
  saved_by c x fits (Some host) is e =
      subst (λ (y : Executed S). checkpoint_of m y ≡ c) (same_Some _ x e)
      (rw ((keeps.only c.host host is).1, entries_of_saved 0 c.clients (clients_saved c fits)) refl)

  -- what a checkpoint loads is saved as that checkpoint
  saved_again : (c : Checkpoint) (x : Executed S) → CheckpointFits c → loaded_of m c ≡ Some x → checkpoint_of m x ≡ c
  saved_again c x fits e = saved_by c x fits (m.loaded c.host) refl e

  first_is : (l : Log) (c : Checkpoint) (x : Executed S) → LogFits l → l.checkpoint ≡ Some c → loaded_of m c ≡ Some x
      → first Trimmed l l.sync_point ≡ log_of m l.sync_point x
  first_is l c x fits has loads =
      let some : nat_lt 0 l.sync_point ≡ true = sym fits.checkpoint.0 ∙ ap is_some has in
      let inside : CheckpointFits c = subst (λ (o : Option Checkpoint). IfSome o CheckpointFits) has fits.checkpoint.1 in
      let none : take (l.sync_point - l.sync_point) l.entries ≡ [] = rw (le_zero l.sync_point) refl in
      rw (none, has, some, saved_again c x inside loads) refl
    where
      le_zero : (n : ℕ) → n - n ≡ 0
      le_zero n = omega arith

  -- the sync point of a log is further
  pub takes_is : (l : Log) (c : Checkpoint) (p : ℕ) (x y : Executed S) → LogFits l → l.checkpoint ≡ Some c → loaded_of m c ≡ Some y
      → p < l.sync_point → known_with Trimmed l (log_of m p x) ≡ log_of m l.sync_point y
  takes_is l c p x y fits has loads up =
      let is : nat_lt p l.sync_point ≡ true = grind (arith, nat_tests, up) in
      ap (λ (b : Bool). cond b (first Trimmed l l.sync_point) (log_of m p x)) is ∙ first_is l c y fits has loads

  -- ---- a length is committed

  -- the entries of a log between two slots
  abbrev more : Log → ℕ → ℕ → List Entry
  more l p n = take (n - p) (drop (p - l.sync_point) l.entries)

  more_fits : (l : Log) (p n : ℕ) → length (more l p n) ≤ n - p
  more_fits l p n = omega (arith, length-take (n - p) (drop (p - l.sync_point) l.entries))

  followed_is : (l : Log) (p n : ℕ) (x : Executed S) → IsSound x.host → (p ≡ 0 → x ≡ opening m) → l.sync_point ≤ p → p < n
      → followed m Trimmed (log_of m p x) l n ≡ log_of m n (exec_kept m x (slice_range l.entries (p - l.sync_point) (n - l.sync_point)))
  followed_is l p n x sound opens low up =
      let count : n - p ≡ (n - l.sync_point) - (p - l.sync_point) = omega (arith, low, up) in
      let some : nat_lt 0 n ≡ true = grind (arith, nat_tests, up) in
      let gone : drop (n - p) (more l p n) ≡ [] = drop_all (n - p) (more l p n) (more_fits l p n) in
      let kept : take (n - p) (more l p n) ≡ take ((n - l.sync_point) - (p - l.sync_point)) (drop (p - l.sync_point) l.entries) =
      take_all (n - p) (more l p n) (more_fits l p n) ∙ ap (λ (k : ℕ). take k (drop (p - l.sync_point) l.entries)) count in
      rw (gone, kept, begins p x sound opens, some) refl

  pub commit_is : (s : Observing) (c : Candidate) (p : ℕ) (x : Executed S) (w : View) (n : ℕ) → s.known ≡ log_of m p x
      → s.candidate ≡ Some c → IsSound x.host → (p ≡ 0 → x ≡ opening m) → c.log.sync_point ≤ p → is_view c.view w ≡ true
      → n ≤ c.log.sync_point + length c.log.entries → p < n
      → commit m Trimmed s w n
      ≡ record s { known = log_of m n (exec_kept m x (slice_range c.log.entries (p - c.log.sync_point) (n - c.log.sync_point))) }
  commit_is s c p x w n is has sound opens low same within up =
      let le : nat_le n (c.log.sync_point + length c.log.entries) ≡ true = grind (arith, nat_tests, within) in
      let lt : nat_lt s.known.sync_point n ≡ true = rw is (grind (arith, nat_tests, up)) in
      let may : may_follow Trimmed s c w n ≡ true = rw (same, le, lt) refl in
      ap (λ (o : Option Candidate). commit_by m Trimmed o s w n) has
      ∙ ap (λ (b : Bool). commit_if m Trimmed b s c.log n) may
      ∙ ap (λ (l : Log). record s { known = followed m Trimmed l c.log n }) is
      ∙ ap (λ (l : Log). record s { known = l }) (followed_is c.log p n x sound opens low up)

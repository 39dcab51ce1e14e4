-- What becomes of a whole log and of the trimmed one.
use Rattle.std.proofs.Common.{◌≡◌, ℕ, zero, suc, ◌-◌, ◌≤◌, ◌<◌, Bool, true, false, cond, List, [], ◌∷◌, ◌++◌, length, take, drop, max}
use Rattle.std.proofs.Common.{Option, Some, None, refl, sym, ap, ◌∙◌, arith, length-drop, length-append, length-take, take-append-drop}
use Rattle.std.specs.Prelude.{nat_lt, ◌&&◌}
use Rattle.std.proofs.lemmas.Bool.Decides.{nat_tests}
use Rattle.std.proofs.lemmas.List.{take-append-le, drop-append-le, take-take}
use Rattle.nop_types.specs.declared.limits.TheConstants.{MAX_SLOTS, MAX_LENGTH}
use Rattle.nop_types.specs.declared.request.Entry.{Entry}
use Rattle.nop_types.specs.declared.request.Entry.TheVariants.{NoOp}
use Rattle.nop_types.specs.Meaning.{Meaning}
use Rattle.nop_types.specs.Lists.{slot_of}
use Rattle.nop_types.specs.Slots.{set_slot, laid}
use Rattle.nop_types.specs.Execution.{Executed, exec}
use Rattle.nop_types.specs.Checkpoints.{Checkpoint, checkpoint_of, KeepsTo}
use Rattle.nop_types.specs.Logs.{Log, Keeping, Whole, Trimmed, length_of, above, entry_at, unsynced, has_room, IsWithin, between}
use Rattle.nop_types.specs.Logs.{appended, with_noop, first, further, adopted, overlaid}
use Rattle.nop_types.specs.CheckpointedLogs.{raised}
use Rattle.lemmas.proofs.Slots.{length-set_slot}
use Rattle.trimming.specs.Trimming.{checkpoint_at, trim}
use Rattle.trimming.proofs.Executions.{executed_trims}
use Rattle.trimming.proofs.Lists.{drop-to, take-prefix, drop-prefix, drop-take_to, slot_of-drop, drop-set_slot, take-set_slot}

abbrev log_of : ℕ → Option Checkpoint → List Entry → Log
log_of s c l = record { sync_point = s; checkpoint = c; entries = l }

pub same_log : (s : ℕ) (c d : Option Checkpoint) (l k : List Entry) → c ≡ d → l ≡ k → log_of s c l ≡ log_of s d k
same_log s c d l k e g = λ i. record { sync_point = s; checkpoint = e i; entries = g i }

-- a slot that is not kept has no entry, and is not written
pub no_entry_below : (l : Log) (n : ℕ) → n ≤ l.sync_point → entry_at Trimmed l n ≡ None
no_entry_below l n h = ap (λ (k : ℕ). slot_of l.entries k) (let e : n - l.sync_point ≡ 0 = omega (arith, h) in e)

pub no_noop_below : (l : Log) (n : ℕ) → n ≤ l.sync_point → with_noop Trimmed l n ≡ l
no_noop_below l n h =
    ap (λ (k : ℕ). record l { entries = set_slot l.entries k NoOp }) (let e : n - l.sync_point ≡ 0 = omega (arith, h) in e)

module _ {S : Type 0} (m : Meaning S) where
  -- a checkpoint is of the front up to the sync point
  pub same_checkpoint : (n : ℕ) (l k : List Entry) → take n l ≡ take n k → checkpoint_at m n l ≡ checkpoint_at m n k
  same_checkpoint zero l k e = refl
  same_checkpoint (suc i) l k e = ap (λ (t : List Entry). Some (checkpoint_of m (exec m t))) e

  pub length_trims : (l : Log) → IsWithin l → length_of Trimmed (trim m l) ≡ length_of Whole l
  length_trims l h = omega (arith, h, length-drop l.sync_point l.entries)

  pub above_trims : (l : Log) (n : ℕ) → l.sync_point ≤ n → above Trimmed (trim m l) n ≡ above Whole l n
  above_trims l n h = drop-to n l.sync_point l.entries h

  pub entry_trims : (l : Log) (n : ℕ) → l.sync_point < n → entry_at Trimmed (trim m l) n ≡ entry_at Whole l n
  entry_trims l n h = slot_of-drop l.sync_point n l.entries h

  -- it has as many entries above the sync point, those of the whole log, and the same room
  pub unsynced_trims : (l : Log) → IsWithin l → unsynced Trimmed (trim m l) ≡ unsynced Whole l
  unsynced_trims l h = ap (λ (n : ℕ). n - l.sync_point) (length_trims l h)

  pub room_trims : (l : Log) → IsWithin l → has_room Trimmed (trim m l) ≡ has_room Whole l
  room_trims l h = ap (λ (n : ℕ). nat_lt (n - l.sync_point) MAX_SLOTS && nat_lt n MAX_LENGTH) (length_trims l h)

  pub between_trims : (l : Log) (n : ℕ) → between Trimmed (trim m l) n ≡ between Whole l n
  between_trims l n = ap (take (n - l.sync_point)) (above_trims l l.sync_point (omega arith))

  pub append_trims : (l : Log) (e : Entry) → IsWithin l → appended (trim m l) e ≡ trim m (appended l e)
  append_trims l e h =
      same_log l.sync_point _ _ _ _
      (same_checkpoint l.sync_point l.entries (l.entries ++ e ∷ []) (sym (take-append-le l.sync_point l.entries (e ∷ []) h)))
      (sym (drop-append-le l.sync_point l.entries (e ∷ []) h))

  pub noop_trims : (l : Log) (n : ℕ) → l.sync_point < n → with_noop Trimmed (trim m l) n ≡ trim m (with_noop Whole l n)
  noop_trims l n h =
      same_log l.sync_point _ _ _ _
      (same_checkpoint l.sync_point l.entries (set_slot l.entries n NoOp) (sym (take-set_slot l.sync_point n NoOp l.entries h)))
      (sym (drop-set_slot l.sync_point n NoOp l.entries h))

  pub first_trims : (l : Log) (n : ℕ) → l.sync_point ≤ n → first Trimmed (trim m l) n ≡ trim m (first Whole l n)
  first_trims l n h =
      same_log l.sync_point _ _ _ _
      (same_checkpoint l.sync_point l.entries (take n l.entries) (sym (take-take l.sync_point n l.entries h)))
      (sym (drop-take_to n l.sync_point l.entries h))

  -- ---- two logs

  no_prefix : (s : ℕ) (l rest : List Entry) → take (s - s) l ++ rest ≡ rest
  no_prefix s l rest = ap (λ (n : ℕ). take n l ++ rest) (let e : s - s ≡ 0 = omega arith in e)

  adopt_if : (new own : Log) → (new.sync_point ≤ own.sync_point → IsWithin own) → (b : Bool) → nat_lt own.sync_point new.sync_point ≡ b
      → adopted Trimmed (trim m new) (trim m own) ≡ trim m (adopted Whole new own)
  adopt_if new own h true e =
      let whole : take new.sync_point new.entries ++ drop new.sync_point new.entries ≡ new.entries =
      take-append-drop new.sync_point new.entries in
      rw e (same_log new.sync_point _ _ _ _
      (same_checkpoint new.sync_point new.entries (take new.sync_point new.entries ++ drop new.sync_point new.entries)
      (ap (take new.sync_point) (sym whole)))
      (no_prefix new.sync_point (drop new.sync_point new.entries) _
      ∙ drop-to new.sync_point new.sync_point new.entries (omega arith)
      ∙ ap (drop new.sync_point) (sym whole)))
  adopt_if new own h false e =
      let less : new.sync_point ≤ own.sync_point = grind (arith, nat_tests, e) in
      rw e (same_log own.sync_point _ _ _ _
      (same_checkpoint own.sync_point own.entries (take own.sync_point own.entries ++ drop own.sync_point new.entries)
      (sym (take-prefix own.sync_point own.entries (drop own.sync_point new.entries) (h less))))
      (no_prefix own.sync_point (drop own.sync_point own.entries) _
      ∙ drop-to own.sync_point new.sync_point new.entries less
      ∙ sym (drop-prefix own.sync_point own.entries (drop own.sync_point new.entries) (h less))))

  pub adopt_trims : (new own : Log) → (new.sync_point ≤ own.sync_point → IsWithin own)
      → adopted Trimmed (trim m new) (trim m own) ≡ trim m (adopted Whole new own)
  adopt_trims new own h = adopt_if new own h (nat_lt own.sync_point new.sync_point) refl

  overlay_if : (new own : Log) (b : Bool) → nat_lt own.sync_point new.sync_point ≡ b → IsWithin (cond b new own)
      → overlaid Trimmed (trim m new) (trim m own) ≡ trim m (overlaid Whole new own)
  overlay_if new own true e h =
      let n : ℕ = new.sync_point in
      let more : List Entry = laid (drop n new.entries) (drop n own.entries) in
      rw e (same_log n _ _ _ _
      (same_checkpoint n new.entries (take n new.entries ++ more) (sym (take-prefix n new.entries more h)))
      (no_prefix n (drop n new.entries) _
      ∙ ap (λ (t : List Entry). laid t (above Trimmed (trim m own) n)) (drop-to n n new.entries (omega arith))
      ∙ ap (laid (drop n new.entries)) (drop-to n own.sync_point own.entries (let k : own.sync_point ≤ n = grind (arith, nat_tests, e) in k))
      ∙ sym (drop-prefix n new.entries more h)))
  overlay_if new own false e h =
      let n : ℕ = own.sync_point in
      let more : List Entry = laid (drop n new.entries) (drop n own.entries) in
      rw e (same_log n _ _ _ _
      (same_checkpoint n own.entries (take n own.entries ++ more) (sym (take-prefix n own.entries more h)))
      (no_prefix n (drop n own.entries) _
      ∙ ap (λ (t : List Entry). laid t (above Trimmed (trim m own) n))
      (drop-to n new.sync_point new.entries (let k : new.sync_point ≤ n = grind (arith, nat_tests, e) in k))
      ∙ ap (laid (drop n new.entries)) (drop-to n n own.entries (omega arith))
      ∙ sym (drop-prefix n own.entries more h)))

  pub overlay_trims : (new own : Log) → IsWithin (further new own)
      → overlaid Trimmed (trim m new) (trim m own) ≡ trim m (overlaid Whole new own)
  overlay_trims new own h = overlay_if new own (nat_lt own.sync_point new.sync_point) refl h

-- ---- the sync point rises

module _ {S : Type 0} (m : Meaning S) (IsSound : S → Type 0) (keeps : KeepsTo m IsSound) where
  pub raise_trims : (l : Log) (n : ℕ) → l.sync_point ≤ n → 0 < n → raised m Trimmed (trim m l) n ≡ trim m (raised m Whole l n)
  raise_trims l zero h low = absurd (omega (arith, low))
  raise_trims l (suc i) h low =
      same_log (suc i) _ _ _ _
      (ap (λ (x : Executed S). Some (checkpoint_of m x)) (executed_trims m IsSound keeps l (suc i) h))
      (drop-to (suc i) l.sync_point l.entries h)

further_point : (new own : Log) → (further new own).sync_point ≡ max own.sync_point new.sync_point
further_point new own = on (nat_lt own.sync_point new.sync_point) refl
  where
    on : (b : Bool) → nat_lt own.sync_point new.sync_point ≡ b → (cond b new own).sync_point ≡ max own.sync_point new.sync_point
    on true e = let less : own.sync_point < new.sync_point = grind (arith, nat_tests, e) in omega (arith, less)
    on false e = let less : new.sync_point ≤ own.sync_point = grind (arith, nat_tests, e) in omega (arith, less)

pub adopted_point : (k : Keeping) (new own : Log) → (adopted k new own).sync_point ≡ max own.sync_point new.sync_point
adopted_point k new own = further_point new own

pub overlaid_point : (k : Keeping) (new own : Log) → (overlaid k new own).sync_point ≡ max own.sync_point new.sync_point
overlaid_point k new own = further_point new own

-- ---- and stays within

prefix_within : (s : ℕ) (l rest : List Entry) → s ≤ length l → s ≤ length (take s l ++ rest)
prefix_within s l rest h = omega (arith, h, length-append (take s l) rest, length-take s l)

pub further_within : (new own : Log) → IsWithin new → IsWithin own → IsWithin (further new own)
further_within new own g h = on (nat_lt own.sync_point new.sync_point)
  where
    on : (b : Bool) → IsWithin (cond b new own)
    on true = g
    on false = h

pub adopted_within : (new own : Log) → IsWithin (further new own) → IsWithin (adopted Whole new own)
adopted_within new own h = let g : Log = further new own in prefix_within g.sync_point g.entries (above Whole new g.sync_point) h

pub overlaid_within : (new own : Log) → IsWithin (further new own) → IsWithin (overlaid Whole new own)
overlaid_within new own h =
    let g : Log = further new own in
    prefix_within g.sync_point g.entries (laid (above Whole new g.sync_point) (above Whole own g.sync_point)) h

pub appended_within : (l : Log) (e : Entry) → IsWithin l → IsWithin (appended l e)
appended_within l e h = omega (arith, h, length-append l.entries (e ∷ []))

pub noop_within : (l : Log) (n : ℕ) → IsWithin l → IsWithin (with_noop Whole l n)
noop_within l n h = omega (arith, h, length-set_slot l.entries n NoOp)

pub first_within : (l : Log) (n : ℕ) → l.sync_point ≤ n → IsWithin l → IsWithin (first Whole l n)
first_within l n less h = omega (arith, h, less, length-take n l.entries)

-- ---- logs without checkpoints

further_has_none : (new own : Log) → new.checkpoint ≡ None → own.checkpoint ≡ None → (further new own).checkpoint ≡ None
further_has_none new own g h = on (nat_lt own.sync_point new.sync_point)
  where
    on : (b : Bool) → (cond b new own).checkpoint ≡ None
    on true = g
    on false = h

pub adopted_has_none : (k : Keeping) (new own : Log) → new.checkpoint ≡ None → own.checkpoint ≡ None
    → (adopted k new own).checkpoint ≡ None
adopted_has_none k new own g h = further_has_none new own g h

pub overlaid_has_none : (k : Keeping) (new own : Log) → new.checkpoint ≡ None → own.checkpoint ≡ None
    → (overlaid k new own).checkpoint ≡ None
overlaid_has_none k new own g h = further_has_none new own g h

-- for the attribute of the law
pub ruleset stays_within = (appended_within, noop_within, first_within, further_within, adopted_within, overlaid_within)

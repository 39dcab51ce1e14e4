-- Each row of an observer over trimmed logs is the row over whole ones, trimmed.
use Rattle.std.proofs.Common.{◌≡◌, ℕ, ◌-◌, ◌≤◌, ◌<◌, Bool, true, false, cond, List, ◌++◌, length, take, drop, Option, Some, None}
use Rattle.std.proofs.Common.{refl, sym, ap, ◌∙◌, arith}
use Rattle.std.specs.Prelude.{nat_lt, nat_le, ◌==◌, ◌&&◌, ◌||◌, IfSome}
use Rattle.std.specs.Option.{option_map}
use Rattle.std.proofs.lemmas.Bool.{and_parts}
use Rattle.std.proofs.lemmas.Bool.Decides.{nat_tests}
use Rattle.std.proofs.lemmas.List.{take-append-le, drop-append-le}
use Rattle.nop_types.specs.declared.peer.Body.{Body}
use Rattle.nop_types.specs.declared.peer.Body.TheVariants as bodies
use Rattle.nop_types.specs.declared.peer.Peer.{Peer}
use Rattle.nop_types.specs.declared.request.Entry.{Entry}
use Rattle.nop_types.specs.declared.view.View.{View}
use Rattle.nop_types.specs.Checkpoints.{Checkpoint, KeepsTo}
use Rattle.nop_types.specs.CheckpointedLogs.{loads, loads_by, raised}
use Rattle.nop_types.specs.Execution.{Executed}
use Rattle.nop_types.specs.Logs.{Log, Whole, Trimmed, IsWithin, length_of, first}
use Rattle.nop_types.specs.Meaning.{Meaning}
use Rattle.nop_types.specs.Views.{is_view, leader_of, outranks}
use Rattle.trimming.specs.Trimming.{trim}
use Rattle.trimming.proofs.Executions.{checkpoint_loads, executed_trims}
use Rattle.trimming.proofs.Logs.{same_log, same_checkpoint, length_trims, above_trims, first_trims, raise_trims}
use Rattle.trimmed_rows.specs.Trimmed.{trimmed_body, trimmed_peer}
use Rattle.observer.specs.Observing.{Candidate, Observing, position, is_better, prepare_if, prepare, may_follow, followed}
use Rattle.observer.specs.Observing.{commit_if, commit_by, on_body, told_if, told, answer}
use Rattle.observer_laws.specs.Trimmed.{IsPlain, CandidateFits, ObservingFits, TellsPlain, trimmed_candidate, trimmed_observing}

pub plain_loads : {S : Type 0} (m : Meaning S) (l : Log) → IsPlain l → loads m l ≡ true
plain_loads m l h = ap (λ (o : Option Checkpoint). loads_by m o) h.whole

module _ {S : Type 0} (m : Meaning S) where
  abbrev ts : Observing → Observing
  ts s = trimmed_observing m s

  better_trims : (o : Option Candidate) (at : ℕ) (w : View) (l : Log) → IfSome o (λ c. CandidateFits at c) → IsWithin l
      → is_better Trimmed (option_map (trimmed_candidate m) o) w (trim m l) ≡ is_better Whole o w l
  better_trims None at w l h g = refl
  better_trims (Some c) at w l h g =
      ap (λ (n : ℕ). outranks w c.view || (is_view c.view w && nat_lt n (length_of Trimmed (trim m l)))) (length_trims m c.log h.plain.within)
      ∙ ap (λ (n : ℕ). outranks w c.view || (is_view c.view w && nat_lt (length_of Whole c.log) n)) (length_trims m l g)

  known_if : (l known : Log) (b : Bool)
      → cond b (first Trimmed (trim m l) l.sync_point) (trim m known) ≡ trim m (cond b (first Whole l l.sync_point) known)
  known_if l known true = first_trims m l l.sync_point (omega arith)
  known_if l known false = refl

  prepare_if_trims : (b : Bool) (s : Observing) (w : View) (l : Log)
      → prepare_if Trimmed b (ts s) w (trim m l) ≡ ts (prepare_if Whole b s w l)
  prepare_if_trims true s w l =
      ap (λ (x : Log). (let t : Observing = record { known = x; candidate = Some (record { view = w; log = trim m l }) } in t))
      (known_if l s.known (nat_lt s.known.sync_point l.sync_point))
  prepare_if_trims false s w l = refl

module _ {S : Type 0} (m : Meaning S) (IsSound : S → Type 0) (keeps : KeepsTo m IsSound) where
  prepare_trims : (s : Observing) (w : View) (l : Log) → ObservingFits s → IsPlain l
      → prepare m Trimmed (ts m s) w (trim m l) ≡ ts m (prepare m Whole s w l)
  prepare_trims s w l h g =
      let loaded : loads m (trim m l) ≡ loads m l = checkpoint_loads m IsSound keeps l ∙ sym (plain_loads m l g) in
      ap (λ (b : Bool). prepare_if Trimmed (b && is_better Trimmed (ts m s).candidate w (trim m l)) (ts m s) w (trim m l)) loaded
      ∙ ap (λ (b : Bool). prepare_if Trimmed (loads m l && b) (ts m s) w (trim m l))
      (better_trims m s.candidate (position s) w l h.candidate g.within)
      ∙ prepare_if_trims m (loads m l && is_better Whole s.candidate w l) s w l

  followed_trims : (known l : Log) (n : ℕ) → length known.entries ≡ known.sync_point → l.sync_point ≤ known.sync_point → known.sync_point < n
      → followed m Trimmed (trim m known) (trim m l) n ≡ trim m (followed m Whole known l n)
  followed_trims known l n ends low up =
      let p : ℕ = known.sync_point in
      let more : List Entry = take (n - p) (drop p l.entries) in
      let there : p ≤ length known.entries = omega (arith, ends) in
      ap (λ (xs : List Entry). raised m Trimmed (record (trim m known) { entries = drop p known.entries ++ take (n - p) xs }) n)
      (above_trims m l p low)
      ∙ ap (λ (x : Log). raised m Trimmed x n)
      (same_log p _ _ _ _
      (same_checkpoint m p known.entries (known.entries ++ more) (sym (take-append-le p known.entries more there)))
      (sym (drop-append-le p known.entries more there)))
      ∙ raise_trims m IsSound keeps (record known { entries = known.entries ++ more }) n (omega (arith, up)) (omega (arith, up))

  commit_on : (s : Observing) (c : Candidate) (w : View) (n : ℕ) → ObservingFits s → CandidateFits (position s) c → (b : Bool)
      → may_follow Whole s c w n ≡ b → commit_if m Trimmed b (ts m s) (trim m c.log) n ≡ ts m (commit_if m Whole b s c.log n)
  commit_on s c w n h g true is =
      let parts = and_parts (is_view c.view w) (nat_le n (length_of Whole c.log) && nat_lt (position s) n) is in
      let test : nat_lt (position s) n ≡ true = (and_parts (nat_le n (length_of Whole c.log)) (nat_lt (position s) n) parts.1).1 in
      let up : position s < n = grind (arith, nat_tests, test) in
      ap (λ (x : Log). (let t : Observing = record (ts m s) { known = x } in t)) (followed_trims s.known c.log n h.ends g.low up)
  commit_on s c w n h g false is = refl

  commit_by_trims : (o : Option Candidate) (s : Observing) (w : View) (n : ℕ) → ObservingFits s → IfSome o (λ c. CandidateFits (position s) c)
      → commit_by m Trimmed (option_map (trimmed_candidate m) o) (ts m s) w n ≡ ts m (commit_by m Whole o s w n)
  commit_by_trims None s w n h g = refl
  commit_by_trims (Some c) s w n h g =
      ap (λ (len : ℕ). commit_if m Trimmed (is_view c.view w && (nat_le n len && nat_lt (position s) n)) (ts m s) (trim m c.log) n)
      (length_trims m c.log g.plain.within)
      ∙ commit_on s c w n h g (may_follow Whole s c w n) refl

  body_trims : (s : Observing) (w : View) (b : Body) → ObservingFits s → TellsPlain b
      → on_body m Trimmed (ts m s) w (trimmed_body m b) ≡ ts m (on_body m Whole s w b)
  body_trims s w (bodies.SyncPrepare l) h g = prepare_trims s w l h g
  body_trims s w (bodies.SyncCommit n) h g = commit_by_trims s.candidate s w n h h.candidate
  body_trims s w body h g = refl

  told_if_trims : (b : Bool) (s : Observing) (p : Peer) → ObservingFits s → TellsPlain p.body
      → told_if m Trimmed b (ts m s) (trimmed_peer m p) ≡ ts m (told_if m Whole b s p)
  told_if_trims true s p h g = body_trims s p.view p.body h g
  told_if_trims false s p h g = refl

  pub told_trims : (n : ℕ) (s : Observing) (p : Peer) → ObservingFits s → TellsPlain p.body
      → told m Trimmed n (ts m s) (trimmed_peer m p) ≡ ts m (told m Whole n s p)
  told_trims n s p h g = told_if_trims (p.sender == leader_of p.view n) s p h g

  -- what is read is the same
  pub answer_trims : (s : Observing) (op : List ℕ) → answer m Trimmed (ts m s) op ≡ answer m Whole s op
  answer_trims s op = ap (λ (x : Executed S). m.answer x.host op) (executed_trims m IsSound keeps s.known (position s) (omega arith))

-- No position falls.
use Rattle.std.proofs.Common.{◌≡◌, ℕ, ◌≤◌, ◌<◌, Bool, true, false, cond, Option, Some, None, refl, arith}
use Rattle.std.specs.Prelude.{nat_lt, nat_le, ◌==◌, ◌&&◌}
use Rattle.std.proofs.lemmas.Bool.{and_parts}
use Rattle.std.proofs.lemmas.Bool.Decides.{nat_tests}
use Rattle.nop_types.specs.declared.peer.Body.{Body}
use Rattle.nop_types.specs.declared.peer.Body.TheVariants as bodies
use Rattle.nop_types.specs.declared.peer.Peer.{Peer}
use Rattle.nop_types.specs.declared.view.View.{View}
use Rattle.nop_types.specs.CheckpointedLogs.{loads, raised}
use Rattle.nop_types.specs.Logs.{Log, Keeping, Whole, Trimmed, length_of, first}
use Rattle.nop_types.specs.Meaning.{Meaning}
use Rattle.nop_types.specs.Views.{is_view, leader_of}
use Rattle.observer.specs.Observing.{Candidate, Observing, position, is_better, prepare_if, may_follow}
use Rattle.observer.specs.Observing.{commit_if, commit_by, on_body, told_if, told}

known_rises : (k : Keeping) (l known : Log) (b : Bool) → nat_lt known.sync_point l.sync_point ≡ b
    → known.sync_point ≤ (cond b (first k l l.sync_point) known).sync_point
known_rises k l known true is = let less : known.sync_point < l.sync_point = grind (arith, nat_tests, is) in omega (arith, less)
known_rises k l known false is = omega arith

prepare_rises : (k : Keeping) (b : Bool) (s : Observing) (w : View) (l : Log) → position s ≤ position (prepare_if k b s w l)
prepare_rises k true s w l = known_rises k l s.known (nat_lt s.known.sync_point l.sync_point) refl
prepare_rises k false s w l = omega arith

module _ {S : Type 0} (m : Meaning S) where
  raised_point : (k : Keeping) (l : Log) (n : ℕ) → (raised m k l n).sync_point ≡ n
  raised_point Whole l n = refl
  raised_point Trimmed l n = refl

  commit_rises : (k : Keeping) (s : Observing) (c : Candidate) (w : View) (n : ℕ) (b : Bool) → may_follow k s c w n ≡ b
      → position s ≤ position (commit_if m k b s c.log n)
  commit_rises k s c w n true is =
      let parts = and_parts (is_view c.view w) (nat_le n (length_of k c.log) && nat_lt (position s) n) is in
      let test : nat_lt (position s) n ≡ true = (and_parts (nat_le n (length_of k c.log)) (nat_lt (position s) n) parts.1).1 in
      let up : position s < n = grind (arith, nat_tests, test) in
      let point : position (commit_if m k true s c.log n) ≡ n = raised_point k _ n in
      omega (arith, up, point)
  commit_rises k s c w n false is = omega arith

  commit_by_rises : (k : Keeping) (o : Option Candidate) (s : Observing) (w : View) (n : ℕ) → position s ≤ position (commit_by m k o s w n)
  commit_by_rises k None s w n = omega arith
  commit_by_rises k (Some c) s w n = commit_rises k s c w n (may_follow k s c w n) refl

  body_rises : (k : Keeping) (s : Observing) (w : View) (b : Body) → position s ≤ position (on_body m k s w b)
  body_rises k s w (bodies.SyncPrepare l) = prepare_rises k (loads m l && is_better k s.candidate w l) s w l
  body_rises k s w (bodies.SyncCommit n) = commit_by_rises k s.candidate s w n
  body_rises k s w body = omega arith

  told_if_rises : (k : Keeping) (b : Bool) (s : Observing) (p : Peer) → position s ≤ position (told_if m k b s p)
  told_if_rises k true s p = body_rises k s p.view p.body
  told_if_rises k false s p = omega arith

  pub positions_rise : (k : Keeping) (n : ℕ) (s : Observing) (p : Peer) → position s ≤ position (told m k n s p)
  positions_rise k n s p = told_if_rises k (p.sender == leader_of p.view n) s p

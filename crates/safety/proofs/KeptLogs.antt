-- The archive and the trimmed logs of the real world are the whole logs: what is read from them is the same.
use Rattle.std.proofs.Common.{◌≡◌, ◌≤◌, ℕ, zero, suc, ◌+◌, Some, refl, ap, ◌∙◌, arith, List, [], ◌∷◌, ◌++◌, take, drop, length, take-append-drop}
use Rattle.std.specs.Prelude.{map, slice_get}
use Rattle.nop_types.specs.Configuration.{Configuration}
use Rattle.nop_types.specs.Logs.{Log, Trimmed, length_of}
use Rattle.nop_types.specs.Meaning.{Meaning}
use Rattle.nop_types.specs.Views.{leader_of}
use Rattle.nop_types.specs.Lines.{Line}
use Rattle.nop_types.specs.declared.request.Entry.{Entry}
use Rattle.nop_types.specs.declared.view.View.{View}
use Rattle.trimming.specs.Trimming.{trim}
use Rattle.trimming.proofs.Logs.{length_trims}
use Rattle.transcript_text.specs.Transcript.{replica_line}
use Rattle.replica_state.specs.State.{PointsMeet}
use Rattle.replica_core.specs.ReplicaSteps.{Replica}
use Rattle.world.specs.Archive.{with_archive}
use Rattle.world.specs.Seats.{Seated}
use Rattle.world.specs.StateLines as state_lines
use Rattle.world.specs.StateLines.{entries_text}
use Rattle.world.specs.WorldSteps as world
use Rattle.world.specs.WorldSteps.{WorldState, greatest_of, main_view, main_log}
use Rattle.whole_world.specs.Whole as whole
use Rattle.whole_world.specs.Whole.{WholeReplica, WholeWorld}
use Rattle.safety.specs.Following.{plain, trimmed_seat}
use Rattle.safety.proofs.Beside.{Alike}

-- what is synchronised of a whole replica is in the archive
pub record IsKept (archive : List Entry) (q : Seated WholeReplica) : Type 0 where
  pub points : PointsMeet q.state.state
  pub within : q.state.state.sync.sync_point ≤ length q.state.state.log.entries
  pub prefix : take q.state.state.sync.sync_point archive ≡ take q.state.state.sync.sync_point q.state.state.log.entries

module _ {S : Type 0} (m : Meaning S) (archive : List Entry) where
  -- the archive in front of a trimmed log is the whole log
  pub whole_again : (q : Seated WholeReplica) → IsKept archive q
      → with_archive archive (trim m q.state.state.log) ≡ q.state.state.log.entries
  whole_again q h =
      let l : Log = q.state.state.log in
      ap (λ (n : ℕ). take n archive ++ drop l.sync_point l.entries) h.points
      ∙ ap (λ (xs : List Entry). xs ++ drop l.sync_point l.entries) h.prefix
      ∙ ap (λ (n : ℕ). take q.state.state.sync.sync_point l.entries ++ drop n l.entries) h.points
      ∙ take-append-drop q.state.state.sync.sync_point l.entries

  -- so of any replica
  pub real_is_whole : (p : Seated Replica) (q : Seated WholeReplica) → plain p ≡ trimmed_seat m q → IsKept archive q
      → with_archive archive p.state.state.log ≡ q.state.state.log.entries
  real_is_whole p q same h = ap (λ (x : Seated WholeReplica). with_archive archive x.state.state.log) same ∙ whole_again q h

  -- ---- lines

  text_of_whole : (i : ℕ) (q : Seated WholeReplica) → IsKept archive q
      → replica_line i q.crashed q.state.state.status q.state.state.view (length_of Trimmed (trim m q.state.state.log))
      q.state.state.sync.sync_point ++ entries_text i 1 (take q.state.state.sync.sync_point archive) ≡ whole.replica_text i q
  text_of_whole i q h =
      let len : length_of Trimmed (trim m q.state.state.log) ≡ length q.state.state.log.entries =
      length_trims m q.state.state.log (omega (arith, h.points, h.within)) in
      ap (λ (n : ℕ). replica_line i q.crashed q.state.state.status q.state.state.view n q.state.state.sync.sync_point
      ++ entries_text i 1 (take q.state.state.sync.sync_point archive)) len
      ∙ ap (λ (xs : List Entry). replica_line i q.crashed q.state.state.status q.state.state.view (length q.state.state.log.entries)
      q.state.state.sync.sync_point ++ entries_text i 1 xs) h.prefix

  -- a real replica's text, by what of it is in the whole one
  abbrev text_by : ℕ → Seated WholeReplica → List ℕ
  text_by i x = replica_line i x.crashed x.state.state.status x.state.state.view (length_of Trimmed x.state.state.log)
      x.state.state.sync.sync_point ++ entries_text i 1 (take x.state.state.sync.sync_point archive)

  pub same_text : (i : ℕ) (ps : List (Seated Replica)) (qs : List (Seated WholeReplica)) → map plain ps ≡ map (trimmed_seat m) qs
      → ((j : ℕ) (q : Seated WholeReplica) → slice_get qs j ≡ Some q → IsKept archive q)
      → state_lines.replicas_text archive i ps ≡ whole.replicas_text i qs
  same_text i [] [] e all = refl
  same_text i [] (q ∷ qs) e all = absurd cc
  same_text i (p ∷ ps) [] e all = absurd cc
  same_text i (p ∷ ps) (q ∷ qs) e all =
      let first : plain p ≡ trimmed_seat m q = cc in
      let rest : map plain ps ≡ map (trimmed_seat m) qs = cc in
      ap (λ (t : List ℕ). t ++ state_lines.replicas_text archive (i + 1) ps) (ap (text_by i) first ∙ text_of_whole i q (all zero q refl))
      ∙ ap (λ (t : List ℕ). whole.replica_text i q ++ t) (same_text (i + 1) ps qs rest (λ j x g. all (suc j) x g))

  -- ---- the main log

  same_log : (ps : List (Seated Replica)) (qs : List (Seated WholeReplica)) (i : ℕ) → map plain ps ≡ map (trimmed_seat m) qs
      → ((j : ℕ) (q : Seated WholeReplica) → slice_get qs j ≡ Some q → IsKept archive q)
      → world.log_of archive (slice_get ps i) ≡ whole.log_of (slice_get qs i)
  same_log [] [] i e all = refl
  same_log [] (q ∷ qs) i e all = absurd cc
  same_log (p ∷ ps) [] i e all = absurd cc
  same_log (p ∷ ps) (q ∷ qs) zero e all = let first : plain p ≡ trimmed_seat m q = cc in real_is_whole p q first (all zero q refl)
  same_log (p ∷ ps) (q ∷ qs) (suc i) e all =
      let rest : map plain ps ≡ map (trimmed_seat m) qs = cc in same_log ps qs i rest (λ j x g. all (suc j) x g)

plain_views : (ps : List (Seated Replica))
    → map (λ (p : Seated Replica). p.state.state.last_normal) ps
    ≡ map (λ (p : Seated WholeReplica). p.state.state.last_normal) (map plain ps)
plain_views [] = refl
plain_views (p ∷ ps) = ap (λ (vs : List View). p.state.state.last_normal ∷ vs) (plain_views ps)

trimmed_views : {S : Type 0} (m : Meaning S) (qs : List (Seated WholeReplica))
    → map (λ (p : Seated WholeReplica). p.state.state.last_normal) (map (trimmed_seat m) qs)
    ≡ map (λ (p : Seated WholeReplica). p.state.state.last_normal) qs
trimmed_views m [] = refl
trimmed_views m (q ∷ qs) = ap (λ (vs : List View). q.state.state.last_normal ∷ vs) (trimmed_views m qs)

pub main_same : {S : Type 0} (m : Meaning S) (t : WorldState) (ls : List Line) (w : WholeWorld) → Alike m t ls w
    → ((j : ℕ) (q : Seated WholeReplica) → slice_get w.replicas j ≡ Some q → IsKept t.archive q) → main_log t ≡ whole.main_log w
unfolding main_log main_view
main_same m t ls w alike all =
    let views : map (λ (p : Seated Replica). p.state.state.last_normal) t.replicas
    ≡ map (λ (p : Seated WholeReplica). p.state.state.last_normal) w.replicas =
    plain_views t.replicas
    ∙ ap (λ (qs : List (Seated WholeReplica)). map (λ (p : Seated WholeReplica). p.state.state.last_normal) qs) alike.replicas
    ∙ trimmed_views m w.replicas in
    ap (λ (vs : List View). world.log_of t.archive (slice_get t.replicas (leader_of (greatest_of vs) t.config.replicas))) views
    ∙ ap (λ (c : Configuration). world.log_of t.archive (slice_get t.replicas (leader_of (whole.main_view w) c.replicas))) alike.config
    ∙ same_log m t.archive t.replicas w.replicas (leader_of (whole.main_view w) w.config.replicas) alike.replicas all

-- Events that leave each actor in its state: a crash, or where nothing is taken.
use Rattle.std.proofs.Common.{◌≡◌, ℕ, ◌+◌, ◌*◌, ◌<◌, Some, refl, sym, ap, subst, ◌∙◌, arith, List, [], length}
use Rattle.std.specs.Prelude.{slice_get, slice_set}
use Rattle.std.proofs.lemmas.List.{append-nil, length-set}
use Rattle.std.proofs.lemmas.Option.{slice_get_within}
use Rattle.nop_types.specs.Configuration.{Configuration}
use Rattle.nop_types.specs.Meaning.{Meaning}
use Rattle.replica_state.specs.State.{PointsMeet}
use Rattle.started_views.specs.Past.{note}
use Rattle.protocol.specs.Conf.{Conf}
use Rattle.protocol.specs.Invariant.{Inv}
use Rattle.protocol.specs.LocalState.{LocalState}
use Rattle.world.specs.Others.{Kind, State, seats, with_seat, count}
use Rattle.world.specs.Seats.{Seated, seated}
use Rattle.world.proofs.Others.{others_become}
use Rattle.whole_world.specs.Passed.{Passed, noted, standing}
use Rattle.refinement.specs.Projection.{local_state_of}
use Rattle.whole_world.specs.Whole.{WholeReplica, WholeWorld}
use Rattle.whole_world.specs.Shows.{IsShown, ShowsActors}
use Rattle.whole_world.proofs.At.{OtherFits, ReplicaFits, Stands, At, Goes}
use Rattle.whole_world.proofs.Outputs.{no_line}
use Rattle.whole_world.proofs.Pasts.{HasLogs, note_idle, noted_idle, noted_one}
use Rattle.whole_world.proofs.Seats.{seats_same}

module _ {S : Type 0} (m : Meaning S) (f : ℕ) (config : Configuration) (p : Passed) (c : Conf) (inv : Inv m f c)
    (at : At m f config p c) where
  abbrev w : WholeWorld
  w = p.world

  abbrev shown : ShowsActors f w c
  shown = at.stands.actors

  -- the past has the log of each replica
  pub has_logs : HasLogs p.past 0 w.replicas
  has_logs i q e =
      let l : i < 2 * f + 1 = omega (arith, slice_get_within w.replicas i q e, shown.replica_count, shown.config) in
      let here : 0 + i ≡ i = omega arith in
      rw (here, at.past) (subst (λ (t : LocalState). c.past.log i t.last_normal ≡ Some t.log) (shown.replicas i q e) (inv.current i l))

  -- where no replica made a step
  pub idle_past : noted f p.past 0 w.replicas w.replicas ≡ c.past
  idle_past = noted_idle f p.past 0 w.replicas has_logs ∙ at.past

  quiet_goes : (v : WholeWorld) → Stands f config v c → v.lines ≡ w.lines → noted f p.past 0 w.replicas v.replicas ≡ c.past
      → Goes m f config p c v
  quiet_goes v stands lines past = record {
    moves = [];
    may = tt;
    stands = stands;
    said = [];
    others = [];
    lines = sym (append-nil c.lines);
    are = lines ∙ sym (append-nil w.lines);
    tells = no_line;
    past = past;
  }

  -- nothing happens
  pub nothing_goes : Goes m f config p c w
  nothing_goes = quiet_goes w at.stands refl idle_past

  -- ---- replicas

  replica_stands : (i : ℕ) (old new : Seated WholeReplica) → slice_get w.replicas i ≡ Some old → new.state ≡ old.state
      → Stands f config (record w { replicas = slice_set w.replicas i new }) c
  replica_stands i old new there same = record {
    same = at.stands.same;
    actors = record {
      is_configuration = shown.is_configuration;
      config = shown.config;
      replica_count = length-set w.replicas i new ∙ shown.replica_count;
      other_count = shown.other_count;
      replicas = seats_same (λ j s. c.replicas j ≡ local_state_of s.state) w.replicas i old new there same shown.replicas;
      points = seats_same (λ j s. PointsMeet s.state) w.replicas i old new there same shown.points;
      others = shown.others;
      givers = shown.givers;
    };
    carries = at.stands.carries;
    tells = at.stands.tells;
    ranges = record {
      replicas = seats_same ReplicaFits w.replicas i old new there same at.stands.ranges.replicas;
      others = at.stands.ranges.others;
    };
  }

  -- one replica's state is as before
  quiet_past : (i : ℕ) (old new : Seated WholeReplica) → slice_get w.replicas i ≡ Some old → new.state ≡ old.state
      → noted f p.past 0 w.replicas (slice_set w.replicas i new) ≡ c.past
  quiet_past i old new there same =
      noted_one f p.past 0 w.replicas i old new has_logs there
      ∙ ap (λ (t : WholeReplica). note f p.past (0 + i) (standing old) (standing (seated t))) same
      ∙ note_idle f p.past (0 + i) (standing old) (has_logs i old there)
      ∙ at.past

  pub quiet_replica : (i : ℕ) (old new : Seated WholeReplica) → slice_get w.replicas i ≡ Some old → new.state ≡ old.state
      → Goes m f config p c (record w { replicas = slice_set w.replicas i new })
  quiet_replica i old new there same =
      quiet_goes (record w { replicas = slice_set w.replicas i new }) (replica_stands i old new there same) refl
      (quiet_past i old new there same)

  -- ---- other actors

  module _ (k : Kind) (i : ℕ) (old new : Seated (State k)) (there : slice_get (seats k w.others) i ≡ Some old)
      (same : new.state ≡ old.state) where
    other_stands : Stands f config (record w { others = with_seat k w.others i new }) c
    other_stands =
        let ps : List (Seated (State k)) = slice_set (seats k w.others) i new in
        record {
          same = at.stands.same;
          actors = record {
            is_configuration = shown.is_configuration;
            config = shown.config;
            replica_count = shown.replica_count;
            other_count = others_become (λ j qs. length qs ≡ count j w.config) w.others k ps
                (length-set (seats k w.others) i new ∙ shown.other_count k) shown.other_count;
            replicas = shown.replicas;
            points = shown.points;
            others = others_become (λ j qs. (n : ℕ) (q : Seated (State j)) → slice_get qs n ≡ Some q → IsShown j c n q.state)
                w.others k ps (seats_same (IsShown k c) (seats k w.others) i old new there same (shown.others k)) shown.others;
            givers = shown.givers;
          };
          carries = at.stands.carries;
          tells = at.stands.tells;
          ranges = record {
            replicas = at.stands.ranges.replicas;
            others = others_become (λ j qs. (n : ℕ) (q : Seated (State j)) → slice_get qs n ≡ Some q → OtherFits j q.state)
                w.others k ps
                (seats_same (λ n s. OtherFits k s) (seats k w.others) i old new there same (at.stands.ranges.others k))
                at.stands.ranges.others;
          };
        }

    pub quiet_other : Goes m f config p c (record w { others = with_seat k w.others i new })
    quiet_other = quiet_goes (record w { others = with_seat k w.others i new }) other_stands refl idle_past

-- Moves that lead from one world to a later one.
use Rattle.std.proofs.Common.{◌≡◌, ℕ, ◌+◌, ◌*◌, refl, sym, ap, subst, ◌∙◌, arith, List, [], ◌∷◌, ◌++◌, append_assoc}
use Rattle.nop_types.specs.Configuration.{Configuration}
use Rattle.nop_types.specs.Lines.{Line}
use Rattle.nop_types.specs.Meaning.{Meaning}
use Rattle.protocol.specs.Conf.{Conf, opening}
use Rattle.protocol.specs.Evolves.{Keeps}
use Rattle.protocol.specs.Invariant.{Inv}
use Rattle.protocol.specs.Moves.{add_lines}
use Rattle.protocol.specs.Runs.{Move, AddLines, run, MayAll}
use Rattle.protocol.proofs.Opening.{opening_meets}
use Rattle.protocol.proofs.Runs.{moves_keep}
use Rattle.refinement.proofs.Runs.{run-append, may_all-append}
use Rattle.whole_world.specs.Whole.{WholeWorld}
use Rattle.whole_world.specs.Passed.{Passed, faults, noted, passes}
use Rattle.whole_world.specs.Safe.{Leads}
use Rattle.whole_world.proofs.At.{Stands, At, Later, Goes}
use Rattle.whole_world.proofs.Fitting.{sent_lasts}
use Rattle.whole_world.proofs.Seats.{still_shown}

-- ---- lines that neither submit nor accept

keeps_lines : (c : Conf) (more : List Line) → Keeps c (add_lines c more)
keeps_lines c more = record {
  requests = λ r h. h;
  stamps = λ x h. h;
  replies = λ y h. h;
  installs = λ x h. h;
  said = λ x h. h;
  lines = (more, refl);
}

stands_with_lines : (f : ℕ) (config : Configuration) (w : WholeWorld) (c : Conf) (more : List Line) → Stands f config w c
    → Stands f config w (add_lines c more)
stands_with_lines f config w c more h = record {
  same = h.same;
  actors = record {
    is_configuration = h.actors.is_configuration;
    config = h.actors.config;
    replica_count = h.actors.replica_count;
    other_count = h.actors.other_count;
    replicas = h.actors.replicas;
    points = h.actors.points;
    others = λ k i p e. still_shown c (add_lines c more) refl refl refl k i p.state (h.actors.others k i p e);
    givers = h.actors.givers;
  };
  carries = record {
    spelled = h.carries.spelled;
    only = λ s x i e. sent_lasts c (add_lines c more) (keeps_lines c more) x (h.carries.only s x i e);
    requests = h.carries.requests;
    stamps = h.carries.stamps;
    replies = h.carries.replies;
    installs = h.carries.installs;
  };
  tells = h.tells;
  ranges = h.ranges;
}

module _ {S : Type 0} (m : Meaning S) (f : ℕ) (config : Configuration) where
  -- ---- from the opening

  pub ran_holds : config.replicas ≡ 2 * f + 1 → (c : Conf) → Leads m f (opening config) c → Inv m f c
  ran_holds count c ran =
      subst (Inv m f) ran.ends (moves_keep m f (opening config) ran.moves (opening_meets m f config count) ran.may).0

  pub ran_on : (c : Conf) (xs : List Move) → Leads m f (opening config) c → MayAll m f c xs → Leads m f (opening config) (run m f c xs)
  ran_on c xs ran may = record {
    moves = ran.moves ++ xs;
    may = may_all-append m f (opening config) ran.moves xs ran.may (subst (λ (d : Conf). MayAll m f d xs) (sym ran.ends) may);
    ends = run-append m f (opening config) ran.moves xs ∙ ap (λ (d : Conf). run m f d xs) ran.ends;
  }

  -- ---- one event

  pub goes_later : (p : Passed) (c : Conf) (v : WholeWorld) → At m f config p c → Goes m f config p c v → Later m f config c (passes p v)
  goes_later p c v at go =
      let d = run m f c go.moves in
      let added : List Move = AddLines go.others ∷ [] in
      let may : MayAll m f c (go.moves ++ added) = may_all-append m f c go.moves added go.may (go.tells, tt) in
      let is : run m f c (go.moves ++ added) ≡ add_lines d go.others = run-append m f c go.moves added in
      let half : faults p.world ≡ f = omega (arith, at.stands.actors.config) in
      record {
        moves = go.moves ++ added;
        may = may;
        at = record {
          ran = ran_on c (go.moves ++ added) at.ran may;
          stands = subst (Stands f config v) (sym is) (stands_with_lines f config v d go.others go.stands);
          lines = go.are ∙ ap (λ (t : List Line). t ++ (go.said ++ go.others)) at.lines
              ∙ sym (append_assoc c.lines go.said go.others) ∙ ap (λ (t : List Line). t ++ go.others) (sym go.lines)
              ∙ ap (λ (e : Conf). e.lines) (sym is);
          past = ap (λ (n : ℕ). noted n p.past 0 p.world.replicas v.replicas) half ∙ go.past
              ∙ ap (λ (e : Conf). e.past) (sym is);
        };
      }

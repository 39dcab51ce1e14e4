use Rattle.std.proofs.Common.{ap, ◌∙◌, ◌++◌, refl, sym, append-nil}
use Rattle.replica_rows.specs.Gathering.{kept_after}
use Rattle.replica_rows.proofs.Gathered.{left_runs, gathers_taken}
use Rattle.replica_rows.proofs.Opening.{gathers_more}
use Rattle.replica_rows.proofs.Running.{on_ok, kept_runs}
use Rattle.replica_rows.proofs.member.Member.gather.Goals as goal

pub open_view-requires-clause-runs : goal.open_view-requires-clause-runs
open_view-requires-clause-runs g c =
    let left = c.in_ok-start.ensures.kept ∙ ap (λ step. kept_after step c.args.self.now.state c.args.change) c.in-Started.is in
    left_runs g.H.Host c.args.self.now.state c.keep_change.new.state _ left c.requires.runs

pub open_view-requires-clause-next : goal.open_view-requires-clause-next
open_view-requires-clause-next g c =
    let left = c.in_ok-start.ensures.kept ∙ ap (λ step. kept_after step c.args.self.now.state c.args.change) c.in-Started.is in
    (gathers_taken g.H.Host.meaning c.args.self.now.state c.keep_change.new.state c.args.self.now.state.changes c.args.change
    c.in-Started.start refl c.requires.runs.within c.requires.runs.loads c.requires.fits c.requires.loads left
    (sym c.in_ok-start.ensures.step ∙ c.in-Started.is)).next

pub open_view-requires-clause-log_fits : goal.open_view-requires-clause-log_fits
open_view-requires-clause-log_fits g c =
    let left = c.in_ok-start.ensures.kept ∙ ap (λ step. kept_after step c.args.self.now.state c.args.change) c.in-Started.is in
    (gathers_taken g.H.Host.meaning c.args.self.now.state c.keep_change.new.state c.args.self.now.state.changes c.args.change
    c.in-Started.start refl c.requires.runs.within c.requires.runs.loads c.requires.fits c.requires.loads left
    (sym c.in_ok-start.ensures.step ∙ c.in-Started.is)).log_fits

pub open_view-requires-clause-loads : goal.open_view-requires-clause-loads
open_view-requires-clause-loads g c =
    let left = c.in_ok-start.ensures.kept ∙ ap (λ step. kept_after step c.args.self.now.state c.args.change) c.in-Started.is in
    (gathers_taken g.H.Host.meaning c.args.self.now.state c.keep_change.new.state c.args.self.now.state.changes c.args.change
    c.in-Started.start refl c.requires.runs.within c.requires.runs.loads c.requires.fits c.requires.loads left
    (sym c.in_ok-start.ensures.step ∙ c.in-Started.is)).loads

pub returns-in-Started : goal.returns-in-Started
returns-in-Started g c =
    let left = c.in_ok-start.ensures.kept ∙ ap (λ step. kept_after step c.args.self.now.state c.args.change) c.in-Started.is in
    let starts =
    gathers_taken g.H.Host.meaning c.args.self.now.state c.keep_change.new.state c.args.self.now.state.changes c.args.change
    c.in-Started.start refl c.requires.runs.within c.requires.runs.loads c.requires.fits c.requires.loads left
    (sym c.in_ok-start.ensures.step ∙ c.in-Started.is) in
    on_ok c.open_view.result _ _
    (λ does. record {
      runs = does.runs;
      state = does.state ∙ ap (λ x. x.0) (sym starts.row);
      sends = does.sends ∙ ap (λ x. c.args.self.now.sends ++ x.1) (sym starts.row);
    })
    c.open_view.ensures

pub returns-in-Waiting : goal.returns-in-Waiting
returns-in-Waiting g c =
    let kept = c.in_ok-start.ensures.kept ∙ ap (λ step. kept_after step c.args.self.now.state c.args.change) c.in-Waiting.is in
    let waits =
    gathers_more g.H.Host.meaning c.args.self.now.state c.keep_change.new.state c.args.self.now.state.changes c.args.change refl kept
    (sym c.in_ok-start.ensures.step ∙ c.in-Waiting.is) in
    record {
      runs =
          kept_runs g.H.Host c.args.self.now.state c.keep_change.new.state
          _ c.args.self.now.state.changes c.args.change refl kept c.requires.runs c.requires.fits c.requires.loads;
      state = ap (λ x. x.0) (sym waits);
      sends = sym (append-nil c.args.self.now.sends) ∙ ap (λ x. c.args.self.now.sends ++ x.1) (sym waits);
    }

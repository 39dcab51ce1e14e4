use Rattle.std.proofs.Common.{◌≡◌, ap, ◌∙◌, ◌++◌, sym, subst, arith}
use Rattle.std.specs.Prelude.{IfSome}
use Rattle.std.specs.List.{AllByRecursion}
use Rattle.nop_types.specs.Logs.{Trimmed}
use Rattle.nop_types.specs.Ranges.{ChangeFits}
use Rattle.replica_state.specs.State.{max_faults}
use Rattle.replica_rows.specs.Within.{ChangeLoads}
use Rattle.replica_rows.proofs.Opening.{own, enters_with_others, enters_without, opens_alone, start_fits, start_loads, put_back}
use Rattle.replica_rows.proofs.Running.{on_ok, sent_on}
use Rattle.replica_rows.proofs.member.Member.enter_view.Goals as goal

pub returns-then-max_faults-gt0 : goal.returns-then-max_faults-gt0
returns-then-max_faults-gt0 g c =
    let e = c.in_ok-enter.ensures.state in
    let same =
    enters_with_others g.H.Host.meaning Trimmed c.args.self.now.state c.args.view
    (omega (arith, c.if-max_faults-gt0.true, c.max_faults.ensures, ap max_faults e)) in
    record {
      runs = c.in_ok-enter.ensures.runs;
      state = e ∙ ap (λ x. x.0) (sym same);
      sends = c.in_ok-enter.ensures.sends ∙ ap (λ x. c.args.self.now.sends ++ x.1) (sym same);
    }

pub returns-in_default : goal.returns-in_default
returns-in_default g c =
    let e = c.in_ok-enter.ensures in
    let same =
    enters_without g.H.Host.meaning Trimmed c.args.self.now.state c.args.view (ap (λ s. s.changes) (sym e.state) ∙ c.in_default.is) in
    record {
      runs = e.runs;
      state = e.state ∙ ap (λ x. x.0) (sym same);
      sends = e.sends ∙ ap (λ x. c.args.self.now.sends ++ x.1) (sym same);
    }

pub start_now-requires : goal.start_now-requires
start_now-requires g c =
    let e = c.in_ok-enter.ensures.state in
    let mine = own c.args.self.now.state c.args.view c.in-Some.changes (ap (λ s. s.changes) (sym e) ∙ c.in-Some.is) in
    omega (arith, mine.f, c.if-max_faults-gt0.false, c.max_faults.ensures, ap max_faults e)

pub open_view-requires-clause-next : goal.open_view-requires-clause-next
open_view-requires-clause-next g c =
    let e = c.in_ok-enter.ensures.state in
    let mine = own c.args.self.now.state c.args.view c.in-Some.changes (ap (λ s. s.changes) (sym e) ∙ c.in-Some.is) in
    let all = subst (λ o. IfSome o (λ x. AllByRecursion ChangeFits x.changes)) c.in-Some.is c.in_ok-enter.ensures.runs.within.changes in
    (start_fits c.in-Some.changes c.in_ok-start.start all (omega (arith, mine.one)) c.in_ok-start.ensures.start).0

pub open_view-requires-clause-log_fits : goal.open_view-requires-clause-log_fits
open_view-requires-clause-log_fits g c =
    let e = c.in_ok-enter.ensures.state in
    let mine = own c.args.self.now.state c.args.view c.in-Some.changes (ap (λ s. s.changes) (sym e) ∙ c.in-Some.is) in
    let all = subst (λ o. IfSome o (λ x. AllByRecursion ChangeFits x.changes)) c.in-Some.is c.in_ok-enter.ensures.runs.within.changes in
    (start_fits c.in-Some.changes c.in_ok-start.start all (omega (arith, mine.one)) c.in_ok-start.ensures.start).1

pub open_view-requires-clause-loads : goal.open_view-requires-clause-loads
open_view-requires-clause-loads g c =
    let m = g.H.Host.meaning in
    let load = c.in_ok-enter.ensures.runs.loads in
    let all = subst (λ o. IfSome o (λ x. AllByRecursion (ChangeLoads m) x.changes)) c.in-Some.is load.gathered in
    start_loads m c.in-Some.changes c.in_ok-start.start all c.in_ok-start.ensures.start

pub returns : goal.returns
returns g c =
    let e = c.in_ok-enter.ensures.state in
    let back = put_back c.enter.new.self.state c.in-Some.changes c.start_now.new.self c.start_now.ensures.same c.in-Some.is in
    let mine = own c.args.self.now.state c.args.view c.in-Some.changes (ap (λ s. s.changes) (sym e) ∙ c.in-Some.is) in
    let none : c.in-Some.changes.f ≡ 0 = omega (arith, mine.f, c.if-max_faults-gt0.false, c.max_faults.ensures, ap max_faults e) in
    let both =
    opens_alone g.H.Host.meaning c.args.self.now.state c.enter.new.self.state
    _ c.args.view c.in-Some.changes c.in_ok-start.start e c.in-Some.is none back c.in_ok-start.ensures.start in
    let so_far = c.in_ok-enter.ensures.sends in
    on_ok c.open_view.result _ _
    (λ does. record {
      runs = does.runs;
      state = does.state ∙ ap (λ x. x.0) (sym both);
      sends =
          sent_on c.args.self.now.sends _ c.enter.new.self.sends _ _ so_far does.sends ∙ ap (λ x. c.args.self.now.sends ++ x.1) (sym both);
    })
    c.open_view.ensures

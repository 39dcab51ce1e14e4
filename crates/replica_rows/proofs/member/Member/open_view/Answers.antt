use Rattle.std.proofs.Common.{refl, sym, ap, subst, ◌∙◌, ◌++◌}
use Rattle.nop_types.specs.declared.peer.Body.TheVariants as bodies
use Rattle.nop_types.specs.Logs.{Trimmed}
use Rattle.nop_types.specs.Ranges.{LogFits}
use Rattle.replica_state.specs.Moves.{adopt, open_with}
use Rattle.replica_state.specs.Sends.{then_do, to_all}
use Rattle.replica_rows.proofs.Running.{on_ok, does_as, does_then}
use Rattle.replica_rows.proofs.member.Member.open_view.Goals as goal

pub send_log_to_all-requires-clause-fits : goal.send_log_to_all-requires-clause-fits
send_log_to_all-requires-clause-fits g c =
    record { number = c.requires.next; log_fits = subst LogFits (sym c.as_ref.ensures.log) c.requires.log_fits }

pub returns : goal.returns
returns g c =
    let m = g.H.Host.meaning in
    let old = c.args.self.now in
    let v = old.state.view in
    let n = c.args.start.next in
    let log = c.args.start.log in
    let after = record old { sends = c.send_log_to_all.new.sends } in
    on_ok c.adopt.result _ _
    (λ taken. does_as g.H.Host old _ (λ s. then_do (s, to_all s (bodies.StartView n log)) (λ t. adopt m Trimmed t v n log))
    (λ s. open_with m Trimmed s n log) refl
    (does_then g.H.Host old after _ (λ s. (s, to_all s (bodies.StartView n log))) (λ t. adopt m Trimmed t v n log)
    (record {
      runs = c.requires.runs;
      state = refl;
      sends =
          c.in_ok-send_log_to_all.ensures.ok
          ∙ ap (λ l. old.sends ++ to_all old.state (bodies.StartView n l)) c.as_ref.ensures.log;
    })
    taken))
    c.adopt.ensures

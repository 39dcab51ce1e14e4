-- A greater view is entered, or a stamped request comes.
use Rattle.std.proofs.Common.{◌≡◌, ◌≤◌, ◌<◌, Bool, true, false, ◌++◌, sym, ap, ◌∙◌}
use Rattle.std.specs.Prelude.{nat_lt}
use Rattle.std.proofs.lemmas.Bool.{lt-ltb, le-ltb}
use Rattle.nop_types.specs.declared.datagram.Stamped.{Stamped}
use Rattle.nop_types.specs.declared.host.Host.{Ghosts}
use Rattle.nop_types.specs.declared.peer.Body.TheVariants as bodies
use Rattle.nop_types.specs.declared.view.View.{View}
use Rattle.nop_types.specs.Logs.{Keeping}
use Rattle.nop_types.specs.Meaning.{Meaning}
use Rattle.replica_state.specs.declared.state.ReplicaState.{ReplicaState}
use Rattle.replica_state.specs.Moves.{entered, enter, enter_as, change_sent, queue, drain}
use Rattle.replica_state.specs.Sends.{Effect, to_all}
use Rattle.replica_state.specs.State.{leads}
use Rattle.replica_rows.specs.declared.member.Member.{Member}
use Rattle.replica_rows.specs.Rows.{new_session, stamped_if, stamped}
use Rattle.replica_rows.specs.Within.{IsRunning, Does}
use Rattle.replica_rows.proofs.Running.{sent_on, gathering_runs}

enters_by : (b : Bool) (s t : ReplicaState) (v : View) → t ≡ entered s v → leads t ≡ b → enter s v ≡ enter_as b t
unfolding enter
enters_by b s t v is e = ap (λ (p : ReplicaState). enter_as (leads p) p) (sym is) ∙ ap (λ (x : Bool). enter_as x t) e

module _ {H U : Type 0} (host : Ghosts H U) where
  -- all others were told, and so was its leader
  pub enters_sending : (old mid new : Member H U) (v : View) → mid.state ≡ entered old.state v
      → mid.sends ≡ old.sends ++ to_all mid.state bodies.ViewChangeReq → leads mid.state ≡ false → IsRunning host new
      → new.state ≡ mid.state → new.sends ≡ mid.sends ++ change_sent mid.state → Does host old new (λ s. enter s v)
  enters_sending old mid new v is asked follows runs same sent =
      let row = enters_by false old.state mid.state v is follows in
      record {
        runs = runs;
        state = same ∙ sym (ap (λ (e : Effect). e.0) row);
        sends =
            sent_on old.sends (to_all mid.state bodies.ViewChangeReq) mid.sends (change_sent mid.state) new.sends asked sent
            ∙ sym (ap (λ (e : Effect). old.sends ++ e.1) row);
      }

  -- or its leader gathers changes
  pub enters_gathering : (old mid new : Member H U) (v : View) → mid.state ≡ entered old.state v
      → mid.sends ≡ old.sends ++ to_all mid.state bodies.ViewChangeReq → leads mid.state ≡ true → IsRunning host mid
      → new.state ≡ (enter_as true mid.state).0 → new.executor ≡ mid.executor → new.sends ≡ mid.sends → Does host old new (λ s. enter s v)
  enters_gathering old mid new v is asked leading runs gathers same sent =
      let row = enters_by true old.state mid.state v is leading in
      record {
        runs = rw same (gathering_runs host mid.state new.state mid.executor gathers runs);
        state = gathers ∙ sym (ap (λ (e : Effect). e.0) row);
        sends = sent ∙ asked ∙ sym (ap (λ (e : Effect). old.sends ++ e.1) row);
      }

-- ---- a stamped request, of a greater session or not

module _ {S : Type 0} (m : Meaning S) (k : Keeping) where
  pub of_greater_session : (s : ReplicaState) (p : Stamped) → s.view.session < p.session → new_session m k p s ≡ stamped m k p s
  unfolding stamped
  of_greater_session s p less =
      let test : nat_lt s.view.session p.session ≡ true = lt-ltb _ _ less in ap (λ (b : Bool). stamped_if m k b p s) (sym test)

  pub of_no_greater_session : (s : ReplicaState) (p : Stamped) → p.session ≤ s.view.session → drain m k (queue s p).0 ≡ stamped m k p s
  unfolding stamped
  of_no_greater_session s p le =
      let test : nat_lt s.view.session p.session ≡ false = le-ltb _ _ le in ap (λ (b : Bool). stamped_if m k b p s) (sym test)

-- A session that was taken out of its table.
use Rattle.std.proofs.Common.{◌≡◌, ℕ, Bool, true, false, cond, List, [], ◌∷◌, Option, Some, None, refl, ap}
use Rattle.std.specs.FinMap as finite
use Rattle.kv_resp.specs.Table as table
use Rattle.kv_resp.specs.Table.{Action}
use Rattle.kv_resp.specs.declared.demand.Form.{Form}
use Rattle.desk.specs.Desks.{has_room}
use Rattle.std.specs.Prelude.{nat_lt}
use Rattle.gate_core.specs.declared.act.Act.TheVariants.{Reply, Close, Waits}
use Rattle.gate_core.specs.declared.gate_state.GateState.{GateState}
use Rattle.gate_core.specs.declared.near.NearAnswer.{NearAnswer}
use Rattle.gate_core.specs.declared.session.InFlight.{InFlight}
use Rattle.gate_core.specs.declared.session.InFlight.TheVariants as flight
use Rattle.gate_core.specs.declared.session.Session.{Session}
use Rattle.gate_core.specs.Gates.{busy, demanded, executed, info, left_by, looked, near_read, no_observers, read_asked, read_from, replied, take, with_session, without_session}
use Rattle.gate_core.proofs.Entries.{gone_here, gone_none, put_back}

-- what is put back is put
back : (g : GateState) (user : ℕ) (s : Session) → with_session (without_session g user) user s ≡ with_session g user s
back g user s = ap (λ m. record g { sessions = m }) (put_back g.sessions user s)

-- what is taken out twice is taken out
twice : (g : GateState) (user : ℕ) → without_session (without_session g user) user ≡ without_session g user
twice g user = ap (λ m. record g { sessions = m }) (gone_none (finite.remove g.sessions user) user (gone_here g.sessions user))

op_taken : (g : GateState) (user : ℕ) (s : Session) (op : List ℕ) (form : Form) (b : Bool)
    → cond b (executed (without_session g user) user s op form) (replied (without_session g user) user s busy)
    ≡ cond b (executed g user s op form) (replied g user s busy)
op_taken g user s op form true =
    ap (λ (h : GateState). take h (Some user) op)
    (back g user (record s { asked = Some (flight.Op (record { ticket = g.desk.state.taken; form = form })) }))
op_taken g user s op form false = ap (λ (h : GateState). (h, Reply user busy ∷ [])) (back g user s)

read_taken : (g : GateState) (user : ℕ) (s : Session) (key : List ℕ) (b : Bool)
    → cond b (read_asked (without_session g user) user s key) (replied (without_session g user) user s no_observers)
    ≡ cond b (read_asked g user s key) (replied g user s no_observers)
read_taken g user s key true =
    ap (λ (h : GateState). (h, Waits user false ∷ []))
    (back g user (record s { asked = Some (flight.Read (record { key = key; under_way = None })) }))
read_taken g user s key false = ap (λ (h : GateState). (h, Reply user no_observers ∷ [])) (back g user s)

from_taken : (o : Option NearAnswer) (g : GateState) (user : ℕ) (s : Session) (key : List ℕ)
    → read_from o (without_session g user) user s key ≡ read_from o g user s key
from_taken None g user s key = read_taken g user s key (nat_lt 0 g.observers)
from_taken (Some a) g user s key =
    let p = near_read a user (record s { asked = Some (flight.Read (record { key = key; under_way = None })) }) in
    ap (λ (h : GateState). (h, p.1)) (back g user p.0)

-- what a request asks for is done as if the session still stood in its table
pub demanded_taken : (g : GateState) (user : ℕ) (s : Session) (action : Action)
    → demanded (without_session g user) user s action ≡ demanded g user s action
demanded_taken g user s (table.Execute op form) = op_taken g user s op form (has_room g.desk.state)
demanded_taken g user s (table.ReadAt key) = from_taken (looked g.near key) g user s key
demanded_taken g user s table.Info = ap (λ (h : GateState). (h, Reply user (info g.watch) ∷ [])) (back g user s)
demanded_taken g user s (table.Answer reply) = ap (λ (h : GateState). (h, Reply user reply ∷ [])) (back g user s)
demanded_taken g user s (table.End reply) = ap (λ (h : GateState). (h, Reply user reply ∷ Close user ∷ [])) (twice g user)

-- its op is for nobody, whether it stands there or not
pub left_taken : (a : Option InFlight) (g : GateState) (user : ℕ) → left_by a (without_session g user) ≡ without_session (left_by a g) user
left_taken None g user = refl
left_taken (Some (flight.Op a)) g user = refl
left_taken (Some (flight.Read r)) g user = refl

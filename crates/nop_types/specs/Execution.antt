-- The execution of a log, and the result at a slot.
use Rattle.std.specs.Prelude.{ℕ, zero, suc, List, [], ◌∷◌, ◌++◌, take, Bool, cond, not, ◌&&◌, ◌==◌, Option, Some, None, slice_get}
use Rattle.std.specs.List.{flat_map}
use Rattle.std.specs.FinMap as finite
use Rattle.nop_types.specs.declared.limits.TheConstants.{MAX_SERVED, WINDOW}
use Rattle.nop_types.specs.declared.request.Request.{Request}
use Rattle.nop_types.specs.declared.request.Entry.{Entry}
use Rattle.nop_types.specs.declared.request.Entry.TheVariants.{NoOp, Req}
use Rattle.nop_types.specs.Meaning.{Meaning}
use Rattle.nop_types.specs.Lists.{is_in}
use Rattle.nop_types.specs.Windows.{is_stale, is_new}
use Rattle.nop_types.specs.Tables.{Table, kept_for, result_kept, is_new_to, serves, with_result}

-- the id of an entry, if it is a request of the client
abbrev pub id_in : ℕ → Entry → List ℕ
id_in client NoOp = []
id_in client (Req r) = cond (r.client == client) (r.id ∷ []) []

-- the ids that a client has in a log, in order
abbrev pub ids_of : ℕ → List Entry → List ℕ
ids_of client log = flat_map (id_in client) log

-- ---- the clients of a log

abbrev pub with_client : List ℕ → ℕ → List ℕ
with_client clients client = cond (is_in clients client) clients (clients ++ client ∷ [])

abbrev pub with_client_of : List ℕ → Entry → List ℕ
with_client_of clients NoOp = clients
with_client_of clients (Req r) = with_client clients r.client

abbrev pub clients_from : List ℕ → List Entry → List ℕ
clients_from clients [] = clients
clients_from clients (e ∷ log) = clients_from (with_client_of clients e) log

-- the different clients of a log, in the order in which they first appear
abbrev pub clients_of : List Entry → List ℕ
clients_of log = clients_from [] log

-- the client is among the first of these, as many as are served
abbrev pub is_served : List ℕ → ℕ → Bool
is_served clients client = is_in (take MAX_SERVED clients) client

-- ---- execution

-- the host's state, and what is kept for each client
pub record Executed (S : Type 0) : Type 0 where
  pub host : S
  pub table : Table

abbrev pub opening : {S : Type 0} → Meaning S → Executed S
opening m = record { host = m.opening; table = finite.empty }

-- the request is executed, and its result kept for its client
abbrev pub execute : {S : Type 0} → Meaning S → Executed S → Request → Executed S
execute m x r = record {
  host = m.after x.host r.op;
  table = with_result WINDOW x.table r.client (record { id = r.id; result = m.answer x.host r.op });
}

-- a request after these entries is executed where its client is served, and its id is new for the client
abbrev pub is_executed : List Entry → Request → Bool
is_executed before r = is_served (clients_of (before ++ Req r ∷ [])) r.client && is_new WINDOW (ids_of r.client before) r.id

-- every other entry does nothing
abbrev pub enter : {S : Type 0} → Meaning S → List Entry → Executed S → Entry → Executed S
enter m before x NoOp = x
enter m before x (Req r) = cond (is_executed before r) (execute m x r) x

-- goes on with the entries of a log, where others stood before
abbrev pub exec_from : {S : Type 0} → Meaning S → List Entry → Executed S → List Entry → Executed S
exec_from m before x [] = x
exec_from m before x (e ∷ log) = exec_from m (before ++ e ∷ []) (enter m before x e) log

-- what the execution of a log leaves
abbrev pub exec : {S : Type 0} → Meaning S → List Entry → Executed S
exec m log = exec_from m [] (opening m) log

-- the result at an entry: nothing where its client is not served or its id is stale, else what is kept with the id after it
abbrev pub result_of : {S : Type 0} → Meaning S → List Entry → List Entry → Option Entry → Option (List ℕ)
result_of m before upto None = None
result_of m before upto (Some NoOp) = None
result_of m before upto (Some (Req r)) =
    cond (is_served (clients_of upto) r.client && not (is_stale WINDOW (ids_of r.client before) r.id))
    (result_kept (kept_for (exec m upto).table r.client) r.id) None

-- the result at a slot, which counts from 1
abbrev pub result_at : {S : Type 0} → Meaning S → List Entry → ℕ → Option (List ℕ)
result_at m log zero = None
result_at m log (suc i) = result_of m (take i log) (take (suc i) log) (slice_get log i)

-- ---- execution by the table, without the log before

abbrev pub takes : Table → Request → Bool
takes table r = serves table r.client && is_new_to WINDOW (kept_for table r.client) r.id

abbrev pub enter_kept : {S : Type 0} → Meaning S → Executed S → Entry → Executed S
enter_kept m x NoOp = x
enter_kept m x (Req r) = cond (takes x.table r) (execute m x r) x

abbrev pub exec_kept : {S : Type 0} → Meaning S → Executed S → List Entry → Executed S
exec_kept m x [] = x
exec_kept m x (e ∷ log) = exec_kept m (enter_kept m x e) log

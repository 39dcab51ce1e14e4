-- Results that were kept one after the other.
use Rattle.std.specs.Prelude.{◌≡◌, ℕ, List, [], ◌∷◌, IsTrue, if◌then◌else◌, ◌==◌, ⊤}
use Rattle.std.specs.List.{flat_map}
use Rattle.nop_types.specs.declared.limits.TheConstants.{WINDOW}
use Rattle.nop_types.specs.Lists.{Has}
use Rattle.nop_types.specs.Windows.{is_new, is_stale}
use Rattle.nop_types.specs.declared.checkpoint.Answered.{Answered}
use Rattle.nop_types.specs.Tables.{Table, kept_for, with_result}
use Rattle.client_table.specs.Table.{Verdict, Fresh, Same, Stale, verdict_on}

-- a client, and an answer to it
abbrev pub Given : Type 0
Given = ℕ × Answered

abbrev pub kept_after : Table → List Given → Table
kept_after table [] = table
kept_after table (given ∷ later) = kept_after (with_result WINDOW table given.0 given.1) later

-- each id was new to what its client had
abbrev pub EachIsFresh : Table → List Given → Type 0
EachIsFresh table [] = ⊤
EachIsFresh table (given ∷ later) =
    (verdict_on (kept_for table given.0) given.1.id ≡ Fresh) × EachIsFresh (with_result WINDOW table given.0 given.1) later

abbrev pub id_for : ℕ → Given → List ℕ
id_for client given = if given.0 == client then given.1.id ∷ [] else []

-- the ids of a client, in order
abbrev pub ids_for : ℕ → List Given → List ℕ
ids_for client givens = flat_map (id_for client) givens

-- fresh: the id is new among those of the client; the same: it was given, with that result; stale: it is a window behind
abbrev pub IsVerdict : List Given → ℕ → ℕ → Verdict → Type 0
IsVerdict givens client id Fresh = IsTrue (is_new WINDOW (ids_for client givens) id)
IsVerdict givens client id (Same result) = Has givens (client, record { id = id; result = result })
IsVerdict givens client id Stale = IsTrue (is_stale WINDOW (ids_for client givens) id)

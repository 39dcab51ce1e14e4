-- The gateway's tables: finite maps from numbers.
use Rattle.std.specs.Prelude.{ℕ, List, Option}
use Rattle.std.specs.Ordering.{nat_cmp}
use Rattle.std.specs.Coded.{Coded, coded_ℕ, coded_option}
use Rattle.std.specs.FinMap as finite
use Rattle.gate_core.specs.declared.session.Session.{Session}
use Rattle.gate_core.specs.contracts.session.Session as session

abbrev pub SessionMap : Type 0
SessionMap = finite.FinMap nat_cmp Session

abbrev pub ReaderMap : Type 0
ReaderMap = finite.FinMap nat_cmp ℕ

abbrev pub OwnerMap : Type 0
OwnerMap = finite.FinMap nat_cmp (Option ℕ)

-- by which a proof tells two of these maps apart
abbrev pub session_code : Coded SessionMap
session_code = finite.code coded_ℕ session.the_row.coded

abbrev pub owner_code : Coded OwnerMap
owner_code = finite.code coded_ℕ (coded_option coded_ℕ)

abbrev pub reader_code : Coded ReaderMap
reader_code = finite.code coded_ℕ coded_ℕ

-- the finite map that the entries of a table make
abbrev pub map_of : {X : Type 0} → List (ℕ × X) → finite.FinMap nat_cmp X
map_of es = finite.from_entries {R = nat_cmp} es

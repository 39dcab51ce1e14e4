-- Requests by message number.
use Rattle.std.specs.Prelude.{ℕ, Bool, nat_le}
use Rattle.std.specs.Ordering.{nat_cmp}
use Rattle.std.specs.Coded.{Coded, coded_ℕ}
use Rattle.std.specs.FinMap as finite
use Rattle.nop_types.specs.declared.request.Request.{Request}
use Rattle.nop_types.specs.contracts.request.Request as request

abbrev pub Requests : Type 0
Requests = finite.FinMap nat_cmp Request

-- by which a proof tells two of these maps apart
abbrev pub requests_code : Coded Requests
requests_code = finite.code coded_ℕ request.the_row.coded

-- whether a number is at least this one
abbrev pub is_from : ℕ → ℕ → Bool
is_from next number = nat_le next number

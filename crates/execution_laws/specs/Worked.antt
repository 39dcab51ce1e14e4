-- A log and lines worked by hand.
use Rattle.std.specs.Prelude.{ℕ, List, [], ◌∷◌, ◌++◌, map, Some}
use Rattle.std.specs.List.{range_with_len}
use Rattle.nop_types.specs.declared.request.Request.{Request}
use Rattle.nop_types.specs.declared.request.Entry.{Entry}
use Rattle.nop_types.specs.declared.request.Entry.TheVariants.{NoOp, Req}
use Rattle.nop_types.specs.Meaning.{Meaning}
use Rattle.nop_types.specs.declared.checkpoint.Answered.{Answered}
use Rattle.nop_types.specs.Tables.{Account}
use Rattle.nop_types.specs.Lines.{Line, Submit, Accept, Busy}

-- a host that keeps all bytes that it was given, and answers with them
abbrev pub appending : Meaning (List ℕ)
appending = record { opening = []; after = λ s op. s ++ op; answer = λ s op. s ++ op; saved = λ s. s; loaded = λ bytes. Some bytes }

-- a request with an op of one byte
abbrev pub request_of : ℕ → ℕ → ℕ → Request
request_of client id byte = record { client = client; id = id; op = byte ∷ [] }

-- of client 1, and of client 2
abbrev pub first_request : Request
first_request = request_of 1 1 10

abbrev pub second_request : Request
second_request = request_of 2 1 20

-- slot 4 repeats slot 1, and slot 6 has an id far below that of slot 5
abbrev pub worked_log : List Entry
worked_log = Req first_request ∷ NoOp ∷ Req second_request ∷ Req first_request ∷ Req (request_of 1 100 30) ∷ Req (request_of 1 2 40) ∷ []

abbrev pub answered : ℕ → List ℕ → Answered
answered id result = record { id = id; result = result }

-- an id with itself as the result
abbrev pub echoed : ℕ → Answered
echoed id = answered id (id ∷ [])

abbrev pub account_of : List Answered → ℕ → Account
account_of kept greatest = record { greatest = greatest; kept = kept }

-- one request of each of so many clients, from client 0 on
abbrev pub crowd : ℕ → List Entry
crowd n = map (λ client. Req (request_of client 1 0)) (range_with_len 0 n)

-- slot 3 repeats slot 2
abbrev pub retried_log : List Entry
retried_log = NoOp ∷ Req first_request ∷ Req first_request ∷ []

abbrev pub retried_lines : List Line
retried_lines = Submit first_request ∷ Busy 1 ∷ Accept 1 1 (10 ∷ []) ∷ []

-- both are submitted before one is accepted, so either may be executed first
abbrev pub concurrent_lines : List Line
concurrent_lines = Submit first_request ∷ Submit second_request ∷ Accept 2 1 (20 ∷ []) ∷ Accept 1 1 (20 ∷ 10 ∷ []) ∷ []

-- accepted before it is submitted
abbrev pub early_lines : List Line
early_lines = Accept 1 1 (10 ∷ []) ∷ Submit first_request ∷ []

-- accepted with a result that the host does not give
abbrev pub wrong_lines : List Line
wrong_lines = Submit first_request ∷ Accept 1 1 (11 ∷ []) ∷ []

-- accepted twice
abbrev pub repeated_lines : List Line
repeated_lines = Submit first_request ∷ Accept 1 1 (10 ∷ []) ∷ Accept 1 1 (10 ∷ []) ∷ []

-- the second is submitted after the first is accepted, but the first one's result has the second one's byte
abbrev pub swapped_lines : List Line
swapped_lines = Submit first_request ∷ Accept 1 1 (20 ∷ 10 ∷ []) ∷ Submit second_request ∷ []

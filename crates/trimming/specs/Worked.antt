-- Logs worked by hand, and changes that have them.
use Rattle.std.specs.Prelude.{ℕ, List, [], ◌∷◌, Some, None}
use Rattle.nop_types.specs.declared.peer.Change.{Change}
use Rattle.nop_types.specs.declared.request.Entry.{Entry}
use Rattle.nop_types.specs.declared.request.Entry.TheVariants.{NoOp, Req}
use Rattle.nop_types.specs.Checkpoints.{Checkpoint}
use Rattle.nop_types.specs.Logs.{Log}
use Rattle.nop_types.specs.Tables.{Account}
use Rattle.execution_laws.specs.Worked.{request_of, answered, account_of}

-- requests of clients 1 and 2, each with an op of one byte
abbrev pub entry_a : Entry
entry_a = Req (request_of 1 1 10)

abbrev pub entry_b : Entry
entry_b = Req (request_of 2 1 20)

abbrev pub entry_c : Entry
entry_c = Req (request_of 1 2 30)

abbrev pub entry_d : Entry
entry_d = Req (request_of 2 2 40)

abbrev pub entry_e : Entry
entry_e = Req (request_of 1 3 50)

abbrev pub whole_log : ℕ → List Entry → Log
whole_log n es = record { sync_point = n; checkpoint = None; entries = es }

abbrev pub trimmed_log : ℕ → Checkpoint → List Entry → Log
trimmed_log n c es = record { sync_point = n; checkpoint = Some c; entries = es }

-- what is kept for a client with one result
abbrev pub account_of_one : ℕ → List ℕ → Account
account_of_one id result = account_of (answered id result ∷ []) id

-- after A and B
abbrev pub after_two : Checkpoint
after_two = record {
  host = 10 ∷ 20 ∷ [];
  clients = (1, account_of_one 1 (10 ∷ [])) ∷ (2, account_of_one 1 (10 ∷ 20 ∷ [])) ∷ [];
}

-- after A, B and C
abbrev pub after_three : Checkpoint
after_three = record {
  host = 10 ∷ 20 ∷ 30 ∷ [];
  clients =
      (1, account_of (answered 1 (10 ∷ []) ∷ answered 2 (10 ∷ 20 ∷ 30 ∷ []) ∷ []) 2)
      ∷ (2, account_of_one 1 (10 ∷ 20 ∷ [])) ∷ [];
}

-- what the sender tells of its log, all of one view
abbrev pub change_of : ℕ → Log → Change
change_of sender log = record { sender = sender; last_normal = record { leader = 0; session = 1 }; next = 6; log = log }

abbrev pub whole_changes : List Change
whole_changes =
    change_of 2 (whole_log 3 (entry_a ∷ entry_b ∷ entry_c ∷ NoOp ∷ entry_e ∷ []))
    ∷ change_of 0 (whole_log 2 (entry_a ∷ entry_b ∷ entry_c ∷ entry_d ∷ []))
    ∷ change_of 1 (whole_log 3 (entry_a ∷ entry_b ∷ entry_c ∷ entry_d ∷ []))
    ∷ []

-- the same, trimmed, with these checkpoints of the senders 0, 1 and 2
abbrev pub trimmed_changes : Checkpoint → Checkpoint → Checkpoint → List Change
trimmed_changes a b c =
    change_of 2 (trimmed_log 3 c (NoOp ∷ entry_e ∷ []))
    ∷ change_of 0 (trimmed_log 2 a (entry_c ∷ entry_d ∷ []))
    ∷ change_of 1 (trimmed_log 3 b (entry_d ∷ []))
    ∷ []

-- one has a NO-OP where the other one's sync point is
abbrev pub other_changes : List Change
other_changes = change_of 0 (whole_log 1 (entry_a ∷ [])) ∷ change_of 1 (whole_log 0 (NoOp ∷ [])) ∷ []

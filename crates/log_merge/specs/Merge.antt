-- The merge of the logs that replicas send to the leader of a view.
use Rattle.std.specs.Prelude.{ℕ, max, cond, length, map, List, [], ◌∷◌, Option, Some, None, nat_le}
use Rattle.std.specs.List.{range_with_len}
use Rattle.nop_types.specs.declared.request.Entry.{Entry}
use Rattle.nop_types.specs.declared.request.Entry.TheVariants.{NoOp, Req}
use Rattle.nop_types.specs.PlainChanges.{Change}
use Rattle.nop_types.specs.Lists.{slot_of}

-- an entry and its sender
pub record Choice : Type 0 where
  pub sender : ℕ
  pub entry : Entry

abbrev pub choice_of : ℕ → Option Entry → Option Choice
choice_of sender None = None
choice_of sender (Some e) = Some (record { sender = sender; entry = e })

-- a NO-OP wins, else the lower sender
abbrev pub of_both : Entry → Entry → Choice → Choice → Choice
of_both NoOp y a b = a
of_both (Req q) NoOp a b = b
of_both (Req q) (Req r) a b = cond (nat_le a.sender b.sender) a b

abbrev pub of_two : Option Choice → Option Choice → Option Choice
of_two None b = b
of_two (Some a) None = Some a
of_two (Some a) (Some b) = Some (of_both a.entry b.entry a b)

-- what wins at a slot
abbrev pub chosen : List Change → ℕ → Option Choice
chosen [] k = None
chosen (c ∷ cs) k = of_two (choice_of c.sender (slot_of c.log k)) (chosen cs k)

abbrev pub entry_of : Option Choice → Entry
entry_of None = NoOp
entry_of (Some t) = t.entry

abbrev pub longest : List Change → ℕ
longest [] = 0
longest (c ∷ cs) = max (length c.log) (longest cs)

-- as long as the longest log, slot by slot
abbrev pub merge : List Change → List Entry
merge cs = map (λ k. entry_of (chosen cs k)) (range_with_len 1 (longest cs))

-- The text of what a run tells is the text of a row, and so are the lines at the end of a transcript.
use Rattle.std.proofs.Common.{◌≡◌, ◌∙◌, ℕ, Bool, List, ◌++◌, codes, decimal, refl, sym, ap, append_assoc}
use Rattle.nop_types.specs.Lines.{Line}
use Rattle.nop_types.specs.Lines as lines
use Rattle.nop_types.specs.declared.replica_state.Phase.{Phase}
use Rattle.nop_types.specs.declared.request.Entry.{Entry}
use Rattle.nop_types.specs.declared.request.Entry.TheVariants.{NoOp, Req}
use Rattle.nop_types.specs.declared.request.Request.{Request}
use Rattle.nop_types.specs.declared.view.View.{View}
use Rattle.transcript_rows.specs.Rows.{row_text}
use Rattle.transcript_rows.specs.LineRows.{row_of}
use Rattle.transcript_rows.specs.declared.row.Row.TheVariants.{State, Slot, Watching, Member, End}
use Rattle.transcript_text.proofs.LineLemmas.{send_fields, answer_fields, replica_fields, observer_fields}
use Rattle.transcript_text.specs.Transcript.{line_text, dead_line, submit_line, accept_line, busy_line, read_line, replica_line, observer_line, entry_line, history_line}
use Rattle.transcript_text.specs.Transcript.{end_line}
use Rattle.transcript_text.specs.Transcript.{client_text, hex_text, line_end, pair_text, space}

pub line_as_row : (line : Line) → row_text (row_of line) ≡ line_text line
unfolding row_text dead_line submit_line accept_line busy_line read_line
line_as_row (lines.Dead actor) = simp append_assoc
line_as_row (lines.Submit request) = simp append_assoc
line_as_row (lines.Accept client id result) = simp append_assoc
line_as_row (lines.Busy client) = simp append_assoc
line_as_row (lines.Read client id observer key) = simp append_assoc
line_as_row (lines.Answer client id observer position result) = answer_fields client id observer position result
line_as_row (lines.Send index from dest datagram) = send_fields index from dest datagram

pub state_as_row : (number : ℕ) (crashed : Bool) (status : Phase) (view : View) (len sync_point : ℕ)
    → row_text (State number crashed status view len sync_point) ≡ replica_line number crashed status view len sync_point
unfolding row_text
state_as_row number crashed status view len sync_point = replica_fields number crashed status view len sync_point

pub observer_as_row : (number : ℕ) (crashed : Bool) (position : ℕ)
    → row_text (Watching number crashed position) ≡ observer_line number crashed position
unfolding row_text
observer_as_row number crashed position = observer_fields number crashed position

-- a client, an id and bytes to the end of a line
abbrev pair_end : ℕ → ℕ → List ℕ → List ℕ
pair_end client id bytes = client_text client ++ (space ++ (decimal id ++ (space ++ (hex_text bytes ++ line_end))))

pair_ends : (client id : ℕ) (bytes : List ℕ) → pair_text client id bytes ++ line_end ≡ pair_end client id bytes
pair_ends client id bytes = simp append_assoc

five : (a b c d e : List ℕ) → a ++ b ++ c ++ d ++ e ≡ a ++ (b ++ (c ++ (d ++ e)))
five a b c d e = simp append_assoc

seven : (a b c d e f g : List ℕ) → a ++ b ++ c ++ d ++ e ++ f ++ g ≡ a ++ (b ++ (c ++ (d ++ (e ++ (f ++ g)))))
seven a b c d e f g = simp append_assoc

member_end : (place : ℕ) (r : Request) → history_line place r ≡ codes "history " ++ (decimal place ++ (space ++ pair_end r.client r.id r.op))
unfolding history_line
member_end place r =
    five (codes "history ") (decimal place) space (pair_text r.client r.id r.op) line_end
    ∙ ap (λ (xs : List ℕ). codes "history " ++ (decimal place ++ (space ++ xs))) (pair_ends r.client r.id r.op)

entry_end : (replica slot : ℕ) (r : Request) → entry_line replica slot (Req r)
    ≡ codes "entry r" ++ (decimal replica ++ (space ++ (decimal slot ++ (space ++ pair_end r.client r.id r.op))))
unfolding entry_line
entry_end replica slot r =
    seven (codes "entry r") (decimal replica) space (decimal slot) space (pair_text r.client r.id r.op) line_end
    ∙ ap (λ (xs : List ℕ). codes "entry r" ++ (decimal replica ++ (space ++ (decimal slot ++ (space ++ xs))))) (pair_ends r.client r.id r.op)

pub entry_as_row : (replica slot : ℕ) (entry : Entry) → row_text (Slot replica slot entry) ≡ entry_line replica slot entry
unfolding row_text entry_line
entry_as_row replica slot NoOp = simp append_assoc
entry_as_row replica slot (Req r) =
    let fields : row_text (Slot replica slot (Req r))
    ≡ codes "entry r" ++ (decimal replica ++ (space ++ (decimal slot ++ (space ++ pair_end r.client r.id r.op)))) = simp append_assoc in
    fields ∙ sym (entry_end replica slot r)

pub member_as_row : (place : ℕ) (r : Request) → row_text (Member place r) ≡ history_line place r
unfolding row_text history_line
member_as_row place r =
    let fields : row_text (Member place r) ≡ codes "history " ++ (decimal place ++ (space ++ pair_end r.client r.id r.op)) = simp append_assoc in
    fields ∙ sym (member_end place r)

pub end_as_row : row_text End ≡ end_line
unfolding row_text end_line
end_as_row = refl

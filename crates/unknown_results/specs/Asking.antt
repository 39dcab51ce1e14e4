-- Requests with a byte in front of their ops, which says whether any answer is taken.
use Rattle.std.specs.Prelude.{ℕ, ◌==◌, ◌&&◌, ◌||◌, Bool, true, false, cond, List, [], ◌∷◌}
use Rattle.nop_types.specs.Lines.{Line, Submit, Accept}
use Rattle.nop_types.specs.declared.request.Request.{Request}

abbrev pub byte_of : Bool → ℕ
byte_of true = 1
byte_of false = 0

abbrev pub with_byte : Bool → Request → Request
with_byte any r = record { client = r.client; id = r.id; op = byte_of any ∷ r.op }

abbrev pub without_first : List ℕ → List ℕ
without_first [] = []
without_first (b ∷ bytes) = bytes

abbrev pub without_byte : Request → Request
without_byte r = record { client = r.client; id = r.id; op = without_first r.op }

-- of these clients and ids the results are unknown: there any answer is taken
abbrev pub asked : (ℕ → ℕ → Bool) → Request → Request
asked unknown r = with_byte (unknown r.client r.id) r

-- a line without the result that is unknown
abbrev pub erased : (ℕ → ℕ → Bool) → Line → Line
erased unknown (Accept client id result) = Accept client id (cond (unknown client id) [] result)
erased unknown line = line

-- what is searched in its place
abbrev pub asked_line : (ℕ → ℕ → Bool) → Line → Line
asked_line unknown (Submit r) = Submit (asked unknown r)
asked_line unknown (Accept client id result) = Accept client id (cond (unknown client id) [] result)
asked_line unknown line = line

-- whether the result of what a line submits or accepts is unknown
abbrev pub is_unknown : (ℕ → ℕ → Bool) → Line → Bool
is_unknown unknown (Submit r) = unknown r.client r.id
is_unknown unknown (Accept client id result) = unknown client id
is_unknown unknown _ = false

-- what is asked in place of a line, where any answer is taken or not
abbrev pub asked_by : Bool → Line → Line
asked_by any (Submit r) = Submit (with_byte any r)
asked_by any (Accept client id result) = Accept client id (cond any [] result)
asked_by any line = line

-- ---- which results are unknown

abbrev pub accepts_of : ℕ → ℕ → Line → Bool
accepts_of client id (Accept c i result) = (c == client) && (i == id)
accepts_of client id _ = false

-- those of the clients and ids that lines with a mark accept
abbrev pub unknown_in : List Bool → List Line → ℕ → ℕ → Bool
unknown_in [] lines client id = false
unknown_in (mark ∷ marks) [] client id = false
unknown_in (mark ∷ marks) (line ∷ lines) client id = (mark && accepts_of client id line) || unknown_in marks lines client id

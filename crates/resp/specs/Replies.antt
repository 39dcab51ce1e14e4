-- How a reply is spelled.
use Rattle.std.specs.Prelude.{ℕ, List, ◌++◌, codes, decimal}
use Rattle.resp.specs.declared.replies.Reply.{Reply}
use Rattle.resp.specs.declared.replies.Reply.TheVariants as code
use Rattle.resp.specs.Spelling.{line_end, bulk}

abbrev pub text_line : List ℕ → List ℕ → List ℕ
text_line sign text = sign ++ text ++ line_end

abbrev pub simple : List ℕ → List ℕ
simple text = text_line (codes "+") text

abbrev pub error : List ℕ → List ℕ
error text = text_line (codes "-") text

abbrev pub integer : ℕ → List ℕ
integer n = text_line (codes ":") (decimal n)

abbrev pub nil : List ℕ
nil = text_line (codes "$") (codes "-1")

-- an array without elements
abbrev pub no_elements : List ℕ
no_elements = text_line (codes "*") (codes "0")

abbrev pub reply_bytes : Reply → List ℕ
reply_bytes (code.Simple text) = simple text.now
reply_bytes (code.Error text) = error text.now
reply_bytes (code.Integer n) = integer n
reply_bytes (code.Bulk bytes) = bulk bytes.now
reply_bytes code.Nil = nil
reply_bytes code.Empty = no_elements

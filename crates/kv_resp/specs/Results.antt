-- The reply for a result of the service.
use Rattle.std.specs.Prelude.{ℕ, List, [], ◌∷◌, Bool, nat_eq, ◌==◌, codes, if◌then◌else◌}
use Rattle.std.specs.Cmp.Lexicographic.{pointwise}
use Rattle.resp.specs.Spelling.{bulk}
use Rattle.resp.specs.Replies.{simple, error, integer, nil}
use Rattle.kv_resp.specs.declared.demand.Form.{Form}
use Rattle.kv_resp.specs.declared.demand.Form.TheVariants.{Value, Stored, Presence, Swapped}

abbrev pub is_text : List ℕ → List ℕ → Bool
is_text text answer = pointwise nat_eq answer text

-- no result that the service has for an op of this form
abbrev pub odd : List ℕ
odd = error (codes "ERR the service answered something else")

-- there is a value, or was one
abbrev pub with_value : Form → List ℕ → List ℕ
with_value Value value = bulk value
with_value Stored value = simple (codes "OK")
with_value Presence value = integer 1
with_value Swapped value = odd

abbrev pub without_value : Form → List ℕ
without_value Value = nil
without_value Stored = simple (codes "OK")
without_value Presence = integer 0
without_value Swapped = odd

-- 1 for yes, 0 for no
abbrev pub swapped : Form → ℕ → List ℕ
swapped Swapped n = integer n
swapped _ n = odd

abbrev pub by_word : Form → List ℕ → List ℕ
by_word form answer =
    if is_text (codes "none") answer then without_value form
    else if is_text (codes "yes") answer then swapped form 1
    else if is_text (codes "no") answer then swapped form 0
    else if is_text (codes "full") answer then error (codes "ERR full: as many keys have a value as may have one")
    else odd

-- `=` and a value, or a word
unfoldable pub reply_to : Form → List ℕ → List ℕ
reply_to form [] = odd
reply_to form (b ∷ rest) = if b == 61 then with_value form rest else by_word form (b ∷ rest)

-- The loops that skip and that collect arguments.
use Rattle.std.proofs.Common.{◌≡◌, ℕ, suc, ◌+◌, ◌-◌, ◌<◌, ◌≤◌, List, [], ◌∷◌, ◌++◌, length, drop, Result, Ok, Err, refl, sym, ap, subst, ◌∙◌}
use Rattle.std.proofs.Common.{arith, append_assoc, append-nil}
use Rattle.std.proofs.lemmas.List.{length-append}
use Rattle.std.proofs.Math.Seq.{drop-append_seam}
use Rattle.resp.specs.declared.limits.TheConstants.{MAX_ARGUMENTS}
use Rattle.resp.specs.declared.parsed.Fault.TheVariants.{TooMany}
use Rattle.resp.specs.declared.parsed.Request.{Request}
use Rattle.resp.specs.declared.parsed.Stop.{Stop}
use Rattle.resp.specs.Reading.{Read, ◌>>=◌, read_line, read_bulk, read_bulks, read_request}
use Rattle.resp.specs.Spelling.{spelled}
use Rattle.resp.specs.Parsed.{rest_of, AreIn, IsIn}
use Rattle.resp.proofs.RequestLemmas.{read_begins}

abbrev pub Arguments : Type 0
Arguments = List (List ℕ)

-- with these before them
abbrev pub behind : Arguments → Read Arguments → Read Arguments
behind found x = x >>= λ p. Ok (found ++ p.0, p.1)

abbrev read_as : Arguments → List ℕ → Read Arguments
read_as found rest = Ok (found, rest)

one_less : (count i : ℕ) → i < count → count - i ≡ suc (count - (i + 1))
one_less count i lt = omega arith

none_left : (count i : ℕ) → count ≤ i → count - i ≡ 0
none_left count i le = omega arith

-- ---- skipping

rest_behind : (first : List ℕ) (x : Read Arguments) → rest_of (x >>= λ others. Ok (first ∷ others.0, others.1)) ≡ rest_of x
rest_behind first (Ok p) = refl
rest_behind first (Err stop) = refl

skip_one : (count : ℕ) (rest first after : List ℕ) → read_bulk rest ≡ Ok (first, after)
    → rest_of (read_bulks (suc count) rest) ≡ rest_of (read_bulks count after)
unfolding read_bulks
skip_one count rest first after e = rw e (rest_behind first (read_bulks count after))

pub skips_on : (count i : ℕ) (rest first after : List ℕ) (whole : Result (List ℕ) Stop) → i < count → read_bulk rest ≡ Ok (first, after)
    → rest_of (read_bulks (count - i) rest) ≡ whole → rest_of (read_bulks (count - (i + 1)) after) ≡ whole
skips_on count i rest first after whole lt e h =
    sym (skip_one (count - (i + 1)) rest first after e)
    ∙ ap (λ (n : ℕ). rest_of (read_bulks n rest)) (sym (one_less count i lt)) ∙ h

skip_stop : (count : ℕ) (rest : List ℕ) (stop : Stop) → read_bulk rest ≡ Err stop → rest_of (read_bulks (suc count) rest) ≡ Err stop
unfolding read_bulks
skip_stop count rest stop e = rw e refl

rest_stop : (x : Read Arguments) (stop : Stop) → rest_of x ≡ Err stop → x ≡ Err stop
rest_stop (Ok p) stop e = absurd cc
rest_stop (Err other) stop e = cc

pub skip_stops : (count i : ℕ) (rest : List ℕ) (stop : Stop) (whole : Read Arguments) → i < count → read_bulk rest ≡ Err stop
    → rest_of (read_bulks (count - i) rest) ≡ rest_of whole → whole ≡ Err stop
skip_stops count i rest stop whole lt e h =
    rest_stop whole stop
    (sym h ∙ ap (λ (n : ℕ). rest_of (read_bulks n rest)) (one_less count i lt) ∙ skip_stop (count - (i + 1)) rest stop e)

skipped : (rest : List ℕ) → rest_of (read_bulks 0 rest) ≡ Ok rest
unfolding read_bulks
skipped rest = refl

pub skip_ends : (count i : ℕ) (rest : List ℕ) (whole : Read Arguments) → count ≤ i
    → rest_of (read_bulks (count - i) rest) ≡ rest_of whole → rest_of whole ≡ Ok rest
skip_ends count i rest whole le h =
    sym h ∙ ap (λ (n : ℕ). rest_of (read_bulks n rest)) (none_left count i le) ∙ skipped rest

-- ---- collecting

pub nothing_before : (x : Read Arguments) → behind [] x ≡ x
nothing_before (Ok p) = refl
nothing_before (Err stop) = refl

first_behind : (found : Arguments) (first : List ℕ) (x : Read Arguments)
    → behind (found ++ first ∷ []) x ≡ behind found (x >>= λ others. Ok (first ∷ others.0, others.1))
first_behind found first (Ok p) = ap (λ (l : Arguments). read_as l p.1) (append_assoc found (first ∷ []) p.0)
first_behind found first (Err stop) = refl

collect_one : (count : ℕ) (found : Arguments) (rest first after : List ℕ) → read_bulk rest ≡ Ok (first, after)
    → behind (found ++ first ∷ []) (read_bulks count after) ≡ behind found (read_bulks (suc count) rest)
unfolding read_bulks
collect_one count found rest first after e = rw e (first_behind found first (read_bulks count after))

pub collects_on : (count i : ℕ) (found : Arguments) (rest first after : List ℕ) (whole : Read Arguments) → i < count
    → read_bulk rest ≡ Ok (first, after) → behind found (read_bulks (count - i) rest) ≡ whole
    → behind (found ++ first ∷ []) (read_bulks (count - (i + 1)) after) ≡ whole
collects_on count i found rest first after whole lt e h =
    collect_one (count - (i + 1)) found rest first after e
    ∙ ap (λ (n : ℕ). behind found (read_bulks n rest)) (sym (one_less count i lt)) ∙ h

collect_stop : (count : ℕ) (found : Arguments) (rest : List ℕ) (stop : Stop) → read_bulk rest ≡ Err stop
    → behind found (read_bulks (suc count) rest) ≡ Err stop
unfolding read_bulks
collect_stop count found rest stop e = rw e refl

pub collect_stops : (count i : ℕ) (found : Arguments) (rest : List ℕ) (stop : Stop) (whole : Read Arguments) → i < count
    → read_bulk rest ≡ Err stop → behind found (read_bulks (count - i) rest) ≡ whole → AreIn found whole
collect_stops count i found rest stop whole lt e h =
    subst (AreIn found)
    (sym (collect_stop (count - (i + 1)) found rest stop e)
    ∙ ap (λ (n : ℕ). behind found (read_bulks n rest)) (sym (one_less count i lt)) ∙ h) tt

collected : (found : Arguments) (rest : List ℕ) → AreIn found (behind found (read_bulks 0 rest))
unfolding read_bulks
collected found rest = sym (append-nil found)

pub collect_ends : (count i : ℕ) (found : Arguments) (rest : List ℕ) (whole : Read Arguments) → count ≤ i
    → behind found (read_bulks (count - i) rest) ≡ whole → AreIn found whole
collect_ends count i found rest whole le h =
    subst (AreIn found) (ap (λ (n : ℕ). behind found (read_bulks n rest)) (sym (none_left count i le)) ∙ h) (collected found rest)

-- ---- the request

pub whole_request : (bytes body : List ℕ) (count : ℕ) → read_line 42 MAX_ARGUMENTS TooMany bytes ≡ Ok (count, body)
    → read_request bytes ≡ read_bulks count body
unfolding read_request
whole_request bytes body count e = rw e refl

abbrev taken : Result (List ℕ) Stop → List ℕ
taken (Ok rest) = rest
taken (Err stop) = []

both : (found : Arguments) (rest : List ℕ) (x : Read Arguments) → rest_of x ≡ Ok rest → AreIn found x → x ≡ Ok (found, rest)
both found rest (Ok p) e h = ap (λ (l : Arguments). read_as l p.1) (sym h) ∙ ap (read_as found) (ap taken e)
both found rest (Err stop) e h = absurd cc

rest_at : (bytes first rest : List ℕ) (len : ℕ) → bytes ≡ first ++ rest → len ≡ length bytes - length rest
    → (len ≤ length bytes) × (drop len bytes ≡ rest)
rest_at bytes first rest len e l =
    let size : length bytes ≡ length first + length rest = ap length e ∙ length-append first rest in
    let same : len ≡ length first = omega arith in
    (omega arith, rw (same, e) (drop-append_seam first rest))

pub is_in : (bytes body rest : List ℕ) (count : ℕ) (r : Request) → read_line 42 MAX_ARGUMENTS TooMany bytes ≡ Ok (count, body)
    → rest_of (read_bulks count body) ≡ Ok rest → AreIn r.arguments.items (read_bulks count body) → r.len ≡ length bytes - length rest
    → IsIn bytes r
is_in bytes body rest count r line skip found len =
    let e = whole_request bytes body count line ∙ both r.arguments.items rest (read_bulks count body) skip found in
    let begins = read_begins bytes r.arguments.items rest e in
    let at = rest_at bytes (spelled r.arguments.items) rest r.len begins.is len in
    record { len = at.0; is = e ∙ ap (read_as r.arguments.items) (sym at.1) }

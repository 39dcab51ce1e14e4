-- What was read means what the definitions of spelling say.
use Rattle.std.proofs.Common.{◌≡◌, ℕ, ◌*◌, ◌<◌, ◌≤◌, List, [], ◌∷◌, ◌++◌, length, drop, Ok, Err, sym, ap, subst, ◌∙◌, arith}
use Rattle.std.specs.Prelude.{decimal}
use Rattle.std.specs.List.{flat_map}
use Rattle.std.proofs.lemmas.Fmt.{length-decimal-le}
use Rattle.std.proofs.lemmas.List.{length-append, length-drop}
use Rattle.resp.specs.declared.limits.TheConstants.{MAX_ARGUMENT_BYTES, MAX_REQUEST_BYTES}
use Rattle.resp.specs.declared.parsed.Fault.{Fault}
use Rattle.resp.specs.declared.parsed.Parsed.{Parsed}
use Rattle.resp.specs.declared.parsed.Parsed.TheVariants.{Complete, Incomplete, Broken}
use Rattle.resp.specs.declared.parsed.Request.{Request}
use Rattle.resp.specs.declared.parsed.Stop.TheVariants.{Wrong}
use Rattle.resp.specs.Reading.{Read, read_request}
use Rattle.resp.specs.Spelling.{line_end, line_of, bulk, spelled, AreShort, IsRequest, AreFront}
use Rattle.resp.specs.Parsed.{IsIn, Reads, IsFirst, BeginNone, Means}
use Rattle.resp.proofs.Readers.{Stays}
use Rattle.resp.proofs.RequestLemmas.{begins_read, read_begins, read_front, request_stays}

stays_broken : (more : List ℕ) (x y : Read (List (List ℕ))) (fault : Fault) → Stays more x y → x ≡ Err (Wrong fault) → y ≡ Err (Wrong fault)
stays_broken more x y fault h e = subst (λ (z : Read (List (List ℕ))). Stays more z y) e h

apart : (x : Read (List (List ℕ))) (arguments : List (List ℕ)) (rest : List ℕ) (fault : Fault) → x ≡ Ok (arguments, rest)
    → x ≡ Err (Wrong fault) → ⊥
apart x arguments rest fault e f = cc

pub read_none : (bytes : List ℕ) (fault : Fault) → read_request bytes ≡ Err (Wrong fault) → BeginNone bytes
read_none bytes fault e =
    λ more arguments rest begins. apart (read_request (bytes ++ more)) arguments rest fault
    (begins_read (bytes ++ more) arguments rest begins)
    (stays_broken more (read_request bytes) (read_request (bytes ++ more)) fault (request_stays bytes more) e)

first_is : (bytes : List ℕ) (r : Request) → IsIn bytes r → IsFirst bytes r
first_is bytes r h =
    let begins = read_begins bytes r.arguments.items (drop r.len bytes) h.is in
    let whole = ap length begins.is ∙ length-append (spelled r.arguments.items) (drop r.len bytes) in
    let tail = length-drop r.len bytes in
    let within = h.len in
    record { begins = begins; len = omega arith }

pub means : (bytes : List ℕ) (parsed : Parsed) → Reads bytes parsed → Means bytes parsed
means bytes (Complete r) h = first_is bytes r h
means bytes Incomplete h = read_front bytes h
means bytes (Broken fault) h = read_none bytes fault h

-- ---- how long a request is

bulk_short : (argument : List ℕ) → length argument ≤ MAX_ARGUMENT_BYTES → length (bulk argument) ≤ 32010
unfolding bulk
bulk_short argument le =
    let digits = length-decimal-le 5 (length argument) (omega arith) (omega arith) (omega arith) in
    let tail = length-append argument line_end in
    let front = length-append (decimal (length argument)) line_end in
    let whole = length-append (line_of 36 (length argument)) (argument ++ line_end) in
    omega arith

bulks_short : (arguments : List (List ℕ)) → AreShort arguments → length (flat_map bulk arguments) ≤ 32010 * length arguments
bulks_short [] h = omega arith
bulks_short (first ∷ others) h =
    let rest = bulks_short others h.1 in
    let one = bulk_short first h.0 in
    let both = length-append (bulk first) (flat_map bulk others) in
    omega arith

pub request_short : (arguments : List (List ℕ)) → IsRequest arguments → length (spelled arguments) ≤ MAX_REQUEST_BYTES
unfolding spelled
request_short arguments h =
    let few = h.few in
    let digits = length-decimal-le 2 (length arguments) (omega arith) (omega arith) (omega arith) in
    let front = length-append (decimal (length arguments)) line_end in
    let rest = bulks_short arguments h.short in
    let whole = length-append (line_of 42 (length arguments)) (flat_map bulk arguments) in
    omega arith

pub front_short : (bytes : List ℕ) → AreFront bytes → length bytes < MAX_REQUEST_BYTES
front_short bytes f =
    let some = f.some in
    let whole = sym (length-append bytes f.missing) ∙ ap length f.is in
    let limit = request_short f.arguments f.fits in
    omega arith

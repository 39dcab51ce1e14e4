-- Datagrams in one vector of bytes.
use Rattle.std.proofs.Common.{◌≡◌, ℕ, zero, suc, ◌+◌, ◌-◌, min, ◌≤◌, List, [], ◌∷◌, ◌++◌, length, take, drop, Some}
use Rattle.std.proofs.Common.{refl, sym, ap, subst, ◌∙◌, arith}
use Rattle.std.specs.List.{All}
use Rattle.std.specs.Prelude.{slice_get, option_map}
use Rattle.std.proofs.Math.Seq.{take-add}
use Rattle.std.proofs.lemmas.List.{take-take, map-append, drop-drop, drop-take}
use Rattle.std.proofs.lemmas.Slice.{between_is}
use Rattle.std.proofs.lemmas.List.Edits.{length-between}
use Rattle.std.proofs.lemmas.List.Elements.{All-get_or, All-head, All-tail}
use Rattle.std.proofs.lemmas.Option.{slice_get_within, get_or_from_slice_get}
use Rattle.nop_types.specs.declared.output.Actor.{Actor}
use Rattle.nop_types.specs.declared.output.Dest.{Dest}
use Rattle.network.specs.declared.network.Mark.{Mark}
use Rattle.network.specs.Network.{Sent}
use Rattle.network.specs.Marks.{part_of, head_len, rest_len, datagram_of, sent_of, all_sent, MarkFits, Keeps}
use Rattle.nop_types.specs.declared.kinds.TheConstants.{FRAGMENT_HEADER_BYTES}

pub length-all_sent : (bytes : List ℕ) (marks : List Mark) → length (all_sent bytes marks) ≡ length marks
length-all_sent bytes [] = refl
length-all_sent bytes (m ∷ ms) = ap suc (length-all_sent bytes ms)

-- the mark with an index
pub mark_fits : (count : ℕ) (marks : List Mark) (i : ℕ) (m : Mark) → All (MarkFits count) marks → slice_get marks i ≡ Some m → MarkFits count m
mark_fits count marks i m all at =
    subst (MarkFits count) (get_or_from_slice_get marks i m m at)
    (All-get_or (MarkFits count) marks i m (slice_get_within marks i m at) all)

-- where the datagrams were sent to
pub all_destinations : (bytes : List ℕ) (marks : List Mark) (i : ℕ)
    → option_map (λ s. s.dest) (slice_get (all_sent bytes marks) i) ≡ option_map (λ m. m.dest) (slice_get marks i)
all_destinations bytes [] i = refl
all_destinations bytes (m ∷ ms) zero = refl
all_destinations bytes (m ∷ ms) (suc i) = all_destinations bytes ms i

-- ---- more bytes

-- a front of the old bytes is one of the new
prefix_kept : (old new : List ℕ) (n : ℕ) → Keeps old new → n ≤ length old → take n new ≡ take n old
prefix_kept old new n keeps le = sym (take-take n (length old) new le) ∙ ap (take n) keeps

pub part_kept : (old new : List ℕ) (begin len : ℕ) → Keeps old new → begin + len ≤ length old
    → part_of new begin len ≡ part_of old begin len
part_kept old new begin len keeps fits =
    between_is new begin (begin + len) ∙ ap (drop begin) (prefix_kept old new (begin + len) keeps fits)
    ∙ sym (between_is old begin (begin + len))

pub sent_kept : (old new : List ℕ) (m : Mark) → Keeps old new → MarkFits (length old) m → sent_of new m ≡ sent_of old m
sent_kept old new m keeps fits =
    let head = part_kept old new m.head (head_len m) keeps fits.head_within in
    let rest = part_kept old new m.rest (rest_len m) keeps fits.rest_within in
    cc

-- more bytes change none of the datagrams
pub all_kept : (old new : List ℕ) (marks : List Mark) → Keeps old new → All (MarkFits (length old)) marks
    → all_sent new marks ≡ all_sent old marks
all_kept old new [] keeps fits = refl
all_kept old new (m ∷ ms) keeps fits =
    let first = sent_kept old new m keeps (All-head (MarkFits (length old)) m ms fits) in
    let others = all_kept old new ms keeps (All-tail (MarkFits (length old)) m ms fits) in
    cc

-- ---- a rest that is there

pub shared_is : (bytes wanted : List ℕ) (begin len : ℕ) → begin + len ≤ length bytes → part_of bytes begin len ≡ wanted
    → part_of bytes begin (length wanted) ≡ wanted
shared_is bytes wanted begin len fits is =
    let same : len ≡ length wanted = omega (arith, length-between bytes begin (begin + len) fits, ap length is) in
    subst (λ (n : ℕ). part_of bytes begin n ≡ wanted) same is

-- ---- a datagram whose parts were put

pub put_is : (middle new datagram prefix back : List ℕ) (head rest len : ℕ) (from : Actor) (dest : Dest) → Keeps middle new
    → head + length prefix ≤ length middle → part_of middle head (length prefix) ≡ prefix → part_of new rest (length back) ≡ back
    → datagram ≡ prefix ++ back → length prefix ≡ min len FRAGMENT_HEADER_BYTES → length back ≡ len - FRAGMENT_HEADER_BYTES
    → sent_of new (record { head = head; rest = rest; len = len; from = from; dest = dest })
    ≡ record { from = from; dest = dest; bytes = datagram }
put_is middle new datagram prefix back head rest len from dest keeps fits is_prefix is_back parts prefix_len back_len =
    let first : part_of new head (min len FRAGMENT_HEADER_BYTES) ≡ prefix =
    subst (λ (n : ℕ). part_of new head n ≡ prefix) prefix_len (part_kept middle new head (length prefix) keeps fits ∙ is_prefix) in
    let second : part_of new rest (len - FRAGMENT_HEADER_BYTES) ≡ back = subst (λ (n : ℕ). part_of new rest n ≡ back) back_len is_back in
    let both : part_of new head (min len FRAGMENT_HEADER_BYTES) ++ part_of new rest (len - FRAGMENT_HEADER_BYTES) ≡ datagram =
    ap (λ (xs : List ℕ). xs ++ part_of new rest (len - FRAGMENT_HEADER_BYTES)) first ∙ ap (λ (ys : List ℕ). prefix ++ ys) second ∙ sym parts in
    ap (λ (bytes : List ℕ). record { from = from; dest = dest; bytes = bytes }) both

pub all_pushed : (old new : List ℕ) (marks new_marks : List Mark) (m : Mark) (s : Sent) → Keeps old new
    → All (MarkFits (length old)) marks → new_marks ≡ marks ++ m ∷ [] → sent_of new m ≡ s
    → all_sent new new_marks ≡ all_sent old marks ++ s ∷ []
all_pushed old new marks new_marks m s keeps fits pushed is =
    ap (all_sent new) pushed ∙ map-append (sent_of new) marks (m ∷ [])
    ∙ ap (λ (xs : List Sent). xs ++ sent_of new m ∷ []) (all_kept old new marks keeps fits)
    ∙ ap (λ (x : Sent). all_sent old marks ++ x ∷ []) is

-- ---- a datagram in one piece

part_is : (bytes : List ℕ) (begin len : ℕ) → part_of bytes begin len ≡ take len (drop begin bytes)
part_is bytes begin len = between_is bytes begin (begin + len) ∙ drop-take begin len bytes

two_parts : (bytes : List ℕ) (begin prefix back : ℕ)
    → part_of bytes begin (prefix + back) ≡ part_of bytes begin prefix ++ part_of bytes (begin + prefix) back
two_parts bytes begin prefix back =
    let whole = part_is bytes begin (prefix + back) ∙ take-add prefix back (drop begin bytes) in
    let first = part_is bytes begin prefix in
    let second = part_is bytes (begin + prefix) back in
    let deeper : drop prefix (drop begin bytes) ≡ drop (begin + prefix) bytes = drop-drop prefix begin bytes in
    cc

pub joined_parts : (bytes : List ℕ) (m : Mark) → m.head + head_len m ≡ m.rest → part_of bytes m.head m.len ≡ datagram_of bytes m
joined_parts bytes m next =
    let len : m.len ≡ head_len m + rest_len m = omega arith in
    ap (part_of bytes m.head) len ∙ two_parts bytes m.head (head_len m) (rest_len m)
    ∙ ap (λ (rest : ℕ). part_of bytes m.head (head_len m) ++ part_of bytes rest (rest_len m)) next

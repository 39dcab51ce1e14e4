-- Each kind after its four bytes: what was spelled is read, and what is read is spelled.
use Rattle.std.proofs.Common.{◌≡◌, ℕ, ◌<◌, ◌≤◌, Bool, true, false, cond, ltb, List, [], ◌∷◌, ◌++◌, length, Some, Ok, refl, sym, ap, subst}
use Rattle.std.proofs.Common.{Result, ◌∙◌, append_assoc, arith}
use Rattle.std.specs.Prelude.{zero, suc, ◌+◌}
use Rattle.std.specs.Int.{w16, w32, w64}
use Rattle.std.proofs.lemmas.Bool.{ltb-false, ltb-true}
use Rattle.std.proofs.lemmas.Bool.Decides.{nat_tests}
use Rattle.std.proofs.lemmas.List.{append-nil, nil_from_length}
use Rattle.nop_types.specs.Ranges.{DatagramFits, RequestFits, StampedFits, ReplyFits, InstallFits, PingFits, FragmentFits}
use Rattle.nop_types.specs.Ranges.{ReadFits, AnswerFits}
use Rattle.nop_types.specs.declared.request.Request.{Request}
use Rattle.nop_types.specs.declared.datagram.Stamped.{Stamped}
use Rattle.nop_types.specs.declared.datagram.Reply.{Reply}
use Rattle.nop_types.specs.declared.datagram.Fragment.{Fragment}
use Rattle.nop_types.specs.declared.datagram.Read.{Read}
use Rattle.nop_types.specs.declared.datagram.Answer.{Answer}
use Rattle.nop_types.specs.declared.datagram.Datagram.{Datagram}
use Rattle.nop_types.specs.declared.datagram.Datagram.TheVariants as datagrams
use Rattle.oum_codec.specs.declared.bad.Bad.{Bad}
use Rattle.oum_codec.specs.declared.fixed.RequestFields.{RequestFields}
use Rattle.oum_codec.specs.declared.fixed.StampedFields.{StampedFields}
use Rattle.oum_codec.specs.declared.fixed.ReplyFields.{ReplyFields}
use Rattle.oum_codec.specs.declared.fixed.InstallFields.{InstallFields}
use Rattle.oum_codec.specs.declared.fixed.PingFields.{PingFields}
use Rattle.oum_codec.specs.declared.fixed.FragmentFields.{FragmentFields}
use Rattle.oum_codec.specs.declared.fixed.AnswerFields.{AnswerFields}
use Rattle.oum_codec.specs.Numbers.{IsBytes, be_bytes}
use Rattle.oum_codec.specs.Spelling.{view_bytes, header, request_bytes, stamped_bytes, reply_bytes, install_bytes, ping_bytes}
use Rattle.oum_codec.specs.Spelling.{fragment_bytes, read_bytes, answer_bytes, spelling}
use Rattle.nop_types.specs.declared.limits.TheConstants.{FRAGMENT_BYTES, MAX_FRAGMENTS, MAX_KEY_BYTES, MAX_OP_BYTES, MAX_RESULT_BYTES}
use Rattle.nop_types.specs.declared.limits.TheConstants.{NUMBER_END}
use Rattle.oum_codec.specs.Fixed.{tag_fits, request_fields_at, request_in_range, stamped_fields_at, stamped_in_range, reply_fields_at}
use Rattle.oum_codec.specs.Fixed.{reply_in_range, install_fields_at, install_in_range, ping_fields_at, ping_in_range, fragment_fields_at}
use Rattle.oum_codec.specs.Fixed.{fragment_in_range, least_payload, read_in_range, answer_fields_at, answer_in_range}
use Rattle.oum_codec.specs.Reading.{◌>>=◌, request_of, stamped_of, reply_of, install_of, ping_of, fragment_of, read_of, answer_of}
use Rattle.oum_codec.proofs.Steps.{bind_ok, ok_is}
use Rattle.oum_codec.proofs.FixedFields.{StampedWidths, ReplyWidths, request_fields_bytes, request_fields_take, request_fields_again}
use Rattle.oum_codec.proofs.FixedFields.{stamped_fields_bytes, stamped_fields_take, stamped_fields_again, reply_fields_bytes}
use Rattle.oum_codec.proofs.FixedFields.{reply_fields_take, reply_fields_again, install_fields_take, install_fields_again}
use Rattle.oum_codec.proofs.FixedFields.{ping_fields_take, ping_fields_again, FragmentWidths, fragment_fields_take, fragment_fields_again}
use Rattle.oum_codec.proofs.FixedFields.{AnswerWidths, answer_fields_bytes, answer_fields_take, answer_fields_again}
use Rattle.oum_codec.proofs.Bodies.{body_ok, body_again}

-- ---- a request

pub request_whole : (f : RequestFields) (op : List ℕ) → f.op_len ≡ length op
    → request_fields_bytes f ++ op ≡ request_bytes (record { client = f.client; id = f.id; op = op })
request_whole f op len = append_assoc (be_bytes w32 f.client ++ be_bytes w64 f.id) (be_bytes w16 f.op_len) op
    ∙ ap (λ (n : ℕ). be_bytes w32 f.client ++ be_bytes w64 f.id ++ (be_bytes w16 n ++ op)) len

pub request_takes : (rest : List ℕ) (d : Datagram) → IsBytes rest → request_of rest ≡ Ok d
    → DatagramFits d × (header 1 ++ rest ≡ spelling d)
unfolding request_of
request_takes rest d fits e =
    let b =
    body_ok (request_fields_at rest) request_in_range (λ f. f.op_len) (λ f. f.op_len)
    (λ f op. datagrams.Request (record { client = f.client; id = f.id; op = op })) d e in
    let t = request_fields_take rest (b.f, b.out) fits b.there in
    let len : b.f.op_len ≡ length b.out = omega (arith, b.enough, b.no_more) in
    let id_low : 1 ≤ b.f.id = grind (arith, nat_tests, b.ranges) in
    let op_high : b.f.op_len ≤ 640 = grind (arith, nat_tests, b.ranges) in
    let whole : rest ≡ request_bytes (record { client = b.f.client; id = b.f.id; op = b.out }) = t.0.parts ∙ request_whole b.f b.out len in
    subst (λ (x : Datagram). DatagramFits x × (header 1 ++ rest ≡ spelling x)) b.is (
      record { client = t.1.client; id_low = id_low; id = t.1.id; op = omega (arith, op_high, len) },
      ap (λ (x : List ℕ). header 1 ++ x) whole,
    )

pub request_again : (r : Request) → RequestFits r → request_of (request_bytes r) ≡ Ok (datagrams.Request r)
unfolding request_of
request_again r fits =
    let f : RequestFields = record { client = r.client; id = r.id; op_len = length r.op } in
    let there : request_fields_at (request_bytes r) ≡ Some (f, r.op) = ap request_fields_at (sym (request_whole f r.op refl))
    ∙ request_fields_again f r.op (record { client = fits.client; id = fits.id; op_len = omega (arith, fits.op) }) in
    let ranges : request_in_range f ≡ true = grind (arith, nat_tests, fits.id_low, fits.op) in
    body_again (request_fields_at (request_bytes r)) request_in_range (λ f. f.op_len) (λ f. f.op_len)
    (λ f op. datagrams.Request (record { client = f.client; id = f.id; op = op })) f r.op there ranges (omega arith) (omega arith)

-- ---- a stamped request

abbrev stamped_made : StampedFields → List ℕ → Stamped
stamped_made f op =
    record { session = f.session; number = f.number; request = record { client = f.request.client; id = f.request.id; op = op } }

stamped_whole : (f : StampedFields) (op : List ℕ) → f.request.op_len ≡ length op
    → stamped_fields_bytes f ++ op ≡ stamped_bytes (stamped_made f op)
stamped_whole f op len = append_assoc (be_bytes w64 f.session ++ be_bytes w64 f.number) (request_fields_bytes f.request) op
    ∙ ap (λ (x : List ℕ). be_bytes w64 f.session ++ be_bytes w64 f.number ++ x) (request_whole f.request op len)

pub stamped_takes : (rest : List ℕ) (d : Datagram) → IsBytes rest → stamped_of rest ≡ Ok d
    → DatagramFits d × (header 2 ++ rest ≡ spelling d)
unfolding stamped_of
stamped_takes rest d fits e =
    let b =
    body_ok (stamped_fields_at rest) stamped_in_range (λ f. f.request.op_len) (λ f. f.request.op_len)
    (λ f op. datagrams.Stamped (stamped_made f op)) d e in
    let t = stamped_fields_take rest (b.f, b.out) fits b.there in
    let len : b.f.request.op_len ≡ length b.out = omega (arith, b.enough, b.no_more) in
    let whole : rest ≡ stamped_bytes (stamped_made b.f b.out) = t.0.parts ∙ stamped_whole b.f b.out len in
    let ranges : StampedFits (stamped_made b.f b.out) = stamped_ranges b.f b.out b.ranges t.1 len in
    subst (λ (x : Datagram). DatagramFits x × (header 2 ++ rest ≡ spelling x)) b.is (ranges, ap (λ (x : List ℕ). header 2 ++ x) whole)
  where
    stamped_ranges : (f : StampedFields) (op : List ℕ) → stamped_in_range f ≡ true → StampedWidths f → f.request.op_len ≡ length op
        → StampedFits (stamped_made f op)
    stamped_ranges f op is widths len =
        let session_low : 1 ≤ f.session = grind (arith, nat_tests, is) in
        let number_low : 1 ≤ f.number = grind (arith, nat_tests, is) in
        let number_high : f.number < NUMBER_END = grind (arith, nat_tests, is) in
        let id_low : 1 ≤ f.request.id = grind (arith, nat_tests, is) in
        let op_high : f.request.op_len ≤ MAX_OP_BYTES = grind (arith, nat_tests, is) in
        record {
          session = record { low = session_low; high = widths.session };
          number_low = number_low;
          number = number_high;
          request = record { client = widths.request.client; id_low = id_low; id = widths.request.id; op = omega (arith, op_high, len) };
        }

pub stamped_again : (s : Stamped) → StampedFits s → stamped_of (stamped_bytes s) ≡ Ok (datagrams.Stamped s)
unfolding stamped_of
stamped_again s fits =
    let r = s.request in
    let f : StampedFields =
    record { session = s.session; number = s.number; request = record { client = r.client; id = r.id; op_len = length r.op } } in
    let widths : StampedWidths f =
    record {
      session = fits.session.high;
      number = omega (arith, fits.number);
      request =
          record { client = fits.request.client; id = fits.request.id; op_len = omega (arith, fits.request.op) };
    } in
    let there : stamped_fields_at (stamped_bytes s) ≡ Some (f, r.op) =
    ap stamped_fields_at (sym (stamped_whole f r.op refl)) ∙ stamped_fields_again f r.op widths in
    let ranges : stamped_in_range f ≡ true =
    grind (arith, nat_tests, fits.session.low, fits.number_low, fits.number, fits.request.id_low, fits.request.op) in
    body_again (stamped_fields_at (stamped_bytes s)) stamped_in_range (λ f. f.request.op_len) (λ f. f.request.op_len)
    (λ f op. datagrams.Stamped (stamped_made f op)) f r.op there ranges (omega arith) (omega arith)

-- ---- a reply

abbrev reply_made : ReplyFields → List ℕ → Reply
reply_made f result =
    record { replica = f.replica; view = f.view; slot = f.slot; client = f.client; id = f.id; tag = f.tag; result = result }

reply_whole : (f : ReplyFields) (result : List ℕ) → f.result_len ≡ length result
    → reply_fields_bytes f ++ result ≡ reply_bytes (reply_made f result)
reply_whole f result len =
    let prefix : List ℕ =
    f.replica ∷ [] ++ view_bytes f.view ++ be_bytes w32 f.slot ++ be_bytes w32 f.client ++ be_bytes w64 f.id ++ f.tag ∷ [] in
    append_assoc prefix (be_bytes w16 f.result_len) result ∙ ap (λ (n : ℕ). prefix ++ (be_bytes w16 n ++ result)) len

reply_ranges : (f : ReplyFields) (result : List ℕ) → reply_in_range f ≡ true → ReplyWidths f → f.result_len ≡ length result
    → ReplyFits (reply_made f result)
reply_ranges f result is widths len =
    let replica : f.replica ≤ 6 = grind (arith, nat_tests, is) in
    let session_low : 1 ≤ f.view.session = grind (arith, nat_tests, is) in
    let slot_low : 1 ≤ f.slot = grind (arith, nat_tests, is) in
    let id_low : 1 ≤ f.id = grind (arith, nat_tests, is) in
    let tag : f.tag ≤ 1 = grind (arith, nat_tests, is) in
    let result_high : f.result_len ≤ MAX_RESULT_BYTES = grind (arith, nat_tests, is) in
    let without : f.tag ≡ 0 → f.result_len ≡ 0 = λ none. grind (arith, nat_tests, is, none) in
    record {
      replica = replica;
      view = record { leader = widths.view.leader; session = record { low = session_low; high = widths.view.session } };
      slot = record { low = slot_low; high = widths.slot };
      client = widths.client;
      id_low = id_low;
      id = widths.id;
      tag = tag;
      result_length = omega (arith, result_high, len);
      without = λ none. omega (arith, without none, len);
    }

pub reply_takes : (rest : List ℕ) (d : Datagram) → IsBytes rest → reply_of rest ≡ Ok d → DatagramFits d × (header 3 ++ rest ≡ spelling d)
unfolding reply_of
reply_takes rest d fits e =
    let b =
    body_ok (reply_fields_at rest) reply_in_range (λ f. f.result_len) (λ f. f.result_len)
    (λ f result. datagrams.Reply (reply_made f result)) d e in
    let t = reply_fields_take rest (b.f, b.out) fits b.there in
    let len : b.f.result_len ≡ length b.out = omega (arith, b.enough, b.no_more) in
    let whole : rest ≡ reply_bytes (reply_made b.f b.out) = t.0.parts ∙ reply_whole b.f b.out len in
    subst (λ (x : Datagram). DatagramFits x × (header 3 ++ rest ≡ spelling x)) b.is
    (reply_ranges b.f b.out b.ranges t.1 len, ap (λ (x : List ℕ). header 3 ++ x) whole)

pub reply_again : (r : Reply) → ReplyFits r → reply_of (reply_bytes r) ≡ Ok (datagrams.Reply r)
unfolding reply_of
reply_again r fits =
    let f : ReplyFields =
    record {
      replica = r.replica;
      view = r.view;
      slot = r.slot;
      client = r.client;
      id = r.id;
      tag = r.tag;
      result_len =
          length r.result;
    } in
    let widths : ReplyWidths f =
    record {
      view = record { leader = fits.view.leader; session = fits.view.session.high };
      slot = fits.slot.high;
      client = fits.client;
      id = fits.id;
      result_len = omega (arith, fits.result_length);
    } in
    let there : reply_fields_at (reply_bytes r) ≡ Some (f, r.result) =
    ap reply_fields_at (sym (reply_whole f r.result refl)) ∙ reply_fields_again f r.result widths in
    let with_tag : tag_fits r.tag (length r.result) ≡ true = tag_again r.tag (length r.result) fits.tag fits.result_length fits.without in
    let ranges : reply_in_range f ≡ true =
    grind (arith, nat_tests, with_tag, fits.replica, fits.view.session.low, fits.slot.low, fits.id_low) in
    body_again (reply_fields_at (reply_bytes r)) reply_in_range (λ f. f.result_len) (λ f. f.result_len)
    (λ f result. datagrams.Reply (reply_made f result)) f r.result there ranges (omega arith) (omega arith)
  where
    tag_again : (tag len : ℕ) → tag ≤ 1 → len ≤ MAX_RESULT_BYTES → (tag ≡ 0 → len ≡ 0) → tag_fits tag len ≡ true
    tag_again zero len low high none = let nothing : len ≡ 0 = none refl in rw nothing refl
    tag_again (suc zero) len low high none = grind (arith, nat_tests)
    tag_again (suc (suc tag)) len low high none = absurd (omega arith)

-- ---- an install or an installed

pub install_takes : (rest : List ℕ) (f : InstallFields) → IsBytes rest → install_of rest ≡ Ok f
    → InstallFits f.controller f.sequencer f.session × (rest ≡ install_bytes f.controller f.sequencer f.session)
unfolding install_of
install_takes rest f fits e =
    let b = body_ok (install_fields_at rest) install_in_range (λ f. 0) (λ f. 0) (λ f nothing. f) f e in
    let t = install_fields_take rest (b.f, b.out) fits b.there in
    let none : b.out ≡ [] = nil_from_length b.out (omega (arith, b.no_more)) in
    let low : 1 ≤ b.f.session = grind (arith, nat_tests, b.ranges) in
    let controller : b.f.controller ≤ 3 = grind (arith, nat_tests, b.ranges) in
    let sequencer : b.f.sequencer ≤ 3 = grind (arith, nat_tests, b.ranges) in
    let text : List ℕ = install_bytes b.f.controller b.f.sequencer b.f.session in
    subst (λ (x : InstallFields). InstallFits x.controller x.sequencer x.session
    × (rest ≡ install_bytes x.controller x.sequencer x.session)) b.is (
      record { controller = controller; sequencer = sequencer; fits = record { low = low; high = t.1 } },
      t.0.parts ∙ ap (λ (x : List ℕ). text ++ x) none ∙ append-nil text,
    )

pub install_again : (controller sequencer session : ℕ) → InstallFits controller sequencer session
    → install_of (install_bytes controller sequencer session)
    ≡ Ok (record { controller = controller; sequencer = sequencer; session = session })
unfolding install_of
install_again controller sequencer session fits =
    let f : InstallFields = record { controller = controller; sequencer = sequencer; session = session } in
    let text : List ℕ = install_bytes controller sequencer session in
    let there : install_fields_at text ≡ Some (f, []) =
    ap install_fields_at (sym (append-nil text)) ∙ install_fields_again f [] fits.fits.high in
    let ranges : install_in_range f ≡ true = grind (arith, nat_tests, fits.controller, fits.sequencer, fits.fits.low) in
    body_again (install_fields_at text) install_in_range (λ f. 0) (λ f. 0) (λ f nothing. f) f [] there ranges (omega arith) (omega arith)

-- read as one of these kinds
abbrev pub install_as : (ℕ → ℕ → ℕ → Datagram) → List ℕ → Result Datagram Bad
install_as make rest = install_of rest >>= λ f. Ok (make f.controller f.sequencer f.session)

pub install_as_takes : (kind : ℕ) (make : ℕ → ℕ → ℕ → Datagram) (rest : List ℕ) (d : Datagram)
    → ((i j n : ℕ) → InstallFits i j n → DatagramFits (make i j n))
    → ((i j n : ℕ) → spelling (make i j n) ≡ header kind ++ install_bytes i j n)
    → IsBytes rest → install_as make rest ≡ Ok d → DatagramFits d × (header kind ++ rest ≡ spelling d)
install_as_takes kind make rest d ranges spelled fits e =
    let a = bind_ok (install_of rest) (λ f. Ok (make f.controller f.sequencer f.session)) d e in
    let f = a.0 in
    let t = install_takes rest f fits a.1 in
    subst (λ (x : Datagram). DatagramFits x × (header kind ++ rest ≡ spelling x)) (ok_is (make f.controller f.sequencer f.session) d a.2) (
      ranges f.controller f.sequencer f.session t.0,
      ap (λ (x : List ℕ). header kind ++ x) t.1 ∙ sym (spelled f.controller f.sequencer f.session),
    )

-- ---- a ping or a pong

pub ping_takes : (rest : List ℕ) (f : PingFields) → IsBytes rest → ping_of rest ≡ Ok f
    → PingFits f.controller f.sequencer f.round × (rest ≡ ping_bytes f.controller f.sequencer f.round)
unfolding ping_of
ping_takes rest f fits e =
    let b = body_ok (ping_fields_at rest) ping_in_range (λ f. 0) (λ f. 0) (λ f nothing. f) f e in
    let t = ping_fields_take rest (b.f, b.out) fits b.there in
    let none : b.out ≡ [] = nil_from_length b.out (omega (arith, b.no_more)) in
    let low : 1 ≤ b.f.round = grind (arith, nat_tests, b.ranges) in
    let controller : b.f.controller ≤ 3 = grind (arith, nat_tests, b.ranges) in
    let sequencer : b.f.sequencer ≤ 3 = grind (arith, nat_tests, b.ranges) in
    let text : List ℕ = ping_bytes b.f.controller b.f.sequencer b.f.round in
    subst (λ (x : PingFields). PingFits x.controller x.sequencer x.round × (rest ≡ ping_bytes x.controller x.sequencer x.round)) b.is (
      record { controller = controller; sequencer = sequencer; fits = record { low = low; high = t.1 } },
      t.0.parts ∙ ap (λ (x : List ℕ). text ++ x) none ∙ append-nil text,
    )

pub ping_again : (controller sequencer round : ℕ) → PingFits controller sequencer round
    → ping_of (ping_bytes controller sequencer round) ≡ Ok (record { controller = controller; sequencer = sequencer; round = round })
unfolding ping_of
ping_again controller sequencer round fits =
    let f : PingFields = record { controller = controller; sequencer = sequencer; round = round } in
    let text : List ℕ = ping_bytes controller sequencer round in
    let there : ping_fields_at text ≡ Some (f, []) =
    ap ping_fields_at (sym (append-nil text)) ∙ ping_fields_again f [] fits.fits.high in
    let ranges : ping_in_range f ≡ true = grind (arith, nat_tests, fits.controller, fits.sequencer, fits.fits.low) in
    body_again (ping_fields_at text) ping_in_range (λ f. 0) (λ f. 0) (λ f nothing. f) f [] there ranges (omega arith) (omega arith)

-- read as one of these kinds
abbrev pub ping_as : (ℕ → ℕ → ℕ → Datagram) → List ℕ → Result Datagram Bad
ping_as make rest = ping_of rest >>= λ f. Ok (make f.controller f.sequencer f.round)

pub ping_as_takes : (kind : ℕ) (make : ℕ → ℕ → ℕ → Datagram) (rest : List ℕ) (d : Datagram)
    → ((i j n : ℕ) → PingFits i j n → DatagramFits (make i j n))
    → ((i j n : ℕ) → spelling (make i j n) ≡ header kind ++ ping_bytes i j n)
    → IsBytes rest → ping_as make rest ≡ Ok d → DatagramFits d × (header kind ++ rest ≡ spelling d)
ping_as_takes kind make rest d ranges spelled fits e =
    let a = bind_ok (ping_of rest) (λ f. Ok (make f.controller f.sequencer f.round)) d e in
    let f = a.0 in
    let t = ping_takes rest f fits a.1 in
    subst (λ (x : Datagram). DatagramFits x × (header kind ++ rest ≡ spelling x)) (ok_is (make f.controller f.sequencer f.round) d a.2) (
      ranges f.controller f.sequencer f.round t.0,
      ap (λ (x : List ℕ). header kind ++ x) t.1 ∙ sym (spelled f.controller f.sequencer f.round),
    )

-- ---- a fragment

abbrev fragment_made : FragmentFields → List ℕ → Fragment
fragment_made f payload = record { replica = f.replica; message = f.message; index = f.index; count = f.count; payload = payload }

-- the sizes of a payload
pub record IsPayload (f : FragmentFields) (len : ℕ) : Type 0 where
  pub some : 1 ≤ len
  pub full : f.index + 1 < f.count → FRAGMENT_BYTES ≤ len

payload_sizes : (f : FragmentFields) (len : ℕ) → least_payload f ≤ len → IsPayload f len
payload_sizes f len enough = sizes (ltb (f.index + 1) f.count) refl enough
  where
    sizes : (b : Bool) → ltb (f.index + 1) f.count ≡ b → cond b FRAGMENT_BYTES 1 ≤ len → IsPayload f len
    sizes true is low = record { some = omega (arith, low); full = λ _. low }
    sizes false is low = record { some = low; full = λ inner. absurd (omega (arith, ltb-false _ _ is)) }

payload_enough : (f : FragmentFields) (len : ℕ) → IsPayload f len → least_payload f ≤ len
payload_enough f len sizes = enough (ltb (f.index + 1) f.count) refl
  where
    enough : (b : Bool) → ltb (f.index + 1) f.count ≡ b → cond b FRAGMENT_BYTES 1 ≤ len
    enough true is = sizes.full (ltb-true _ _ is)
    enough false is = sizes.some

pub fragment_takes : (rest : List ℕ) (d : Datagram) → IsBytes rest → fragment_of rest ≡ Ok d
    → DatagramFits d × (header 8 ++ rest ≡ spelling d)
unfolding fragment_of
fragment_takes rest d fits e =
    let b =
    body_ok (fragment_fields_at rest) fragment_in_range least_payload (λ f. FRAGMENT_BYTES)
    (λ f payload. datagrams.Fragment (fragment_made f payload)) d e in
    let t = fragment_fields_take rest (b.f, b.out) fits b.there in
    let sizes = payload_sizes b.f (length b.out) b.enough in
    let replica : b.f.replica ≤ 6 = grind (arith, nat_tests, b.ranges) in
    let message_low : 1 ≤ b.f.message = grind (arith, nat_tests, b.ranges) in
    let index : b.f.index < b.f.count = grind (arith, nat_tests, b.ranges) in
    let count : b.f.count ≤ MAX_FRAGMENTS = grind (arith, nat_tests, b.ranges) in
    let ranges : FragmentFits (fragment_made b.f b.out) = record {
      replica = replica;
      message_low = message_low;
      message = t.1.message;
      index = index;
      count = count;
      some = sizes.some;
      most = b.no_more;
      full = λ inner. omega (arith, sizes.full inner, b.no_more);
    } in
    subst (λ (x : Datagram). DatagramFits x × (header 8 ++ rest ≡ spelling x)) b.is (ranges, ap (λ (x : List ℕ). header 8 ++ x) t.0.parts)

pub fragment_again : (f : Fragment) → FragmentFits f → fragment_of (fragment_bytes f) ≡ Ok (datagrams.Fragment f)
unfolding fragment_of
fragment_again f fits =
    let g : FragmentFields = record { replica = f.replica; message = f.message; index = f.index; count = f.count } in
    let widths : FragmentWidths g =
    record { message = fits.message; index = omega (arith, fits.index, fits.count); count = omega (arith, fits.count) } in
    let there : fragment_fields_at (fragment_bytes f) ≡ Some (g, f.payload) = fragment_fields_again g f.payload widths in
    let ranges : fragment_in_range g ≡ true = grind (arith, nat_tests, fits.replica, fits.message_low, fits.index, fits.count) in
    let enough : least_payload g ≤ length f.payload =
    payload_enough g (length f.payload) (record { some = fits.some; full = λ inner. omega (arith, fits.full inner) }) in
    body_again (fragment_fields_at (fragment_bytes f)) fragment_in_range least_payload (λ f. FRAGMENT_BYTES)
    (λ f payload. datagrams.Fragment (fragment_made f payload)) g f.payload there ranges enough fits.most

-- ---- a read

pub read_takes : (rest : List ℕ) (d : Datagram) → IsBytes rest → read_of rest ≡ Ok d → DatagramFits d × (header 9 ++ rest ≡ spelling d)
unfolding read_of
read_takes rest d fits e =
    let b =
    body_ok (request_fields_at rest) read_in_range (λ f. f.op_len) (λ f. f.op_len)
    (λ f key. datagrams.Read (record { client = f.client; id = f.id; key = key })) d e in
    let t = request_fields_take rest (b.f, b.out) fits b.there in
    let len : b.f.op_len ≡ length b.out = omega (arith, b.enough, b.no_more) in
    let id_low : 1 ≤ b.f.id = grind (arith, nat_tests, b.ranges) in
    let some : 1 ≤ b.f.op_len = grind (arith, nat_tests, b.ranges) in
    let most : b.f.op_len ≤ MAX_KEY_BYTES = grind (arith, nat_tests, b.ranges) in
    let whole : rest ≡ read_bytes (record { client = b.f.client; id = b.f.id; key = b.out }) = t.0.parts ∙ request_whole b.f b.out len in
    subst (λ (x : Datagram). DatagramFits x × (header 9 ++ rest ≡ spelling x)) b.is (
      record { client = t.1.client; id_low = id_low; id = t.1.id; some = omega (arith, some, len); most = omega (arith, most, len) },
      ap (λ (x : List ℕ). header 9 ++ x) whole,
    )

pub read_again : (r : Read) → ReadFits r → read_of (read_bytes r) ≡ Ok (datagrams.Read r)
unfolding read_of
read_again r fits =
    let f : RequestFields = record { client = r.client; id = r.id; op_len = length r.key } in
    let there : request_fields_at (read_bytes r) ≡ Some (f, r.key) = ap request_fields_at (sym (request_whole f r.key refl))
    ∙ request_fields_again f r.key (record { client = fits.client; id = fits.id; op_len = omega (arith, fits.most) }) in
    let ranges : read_in_range f ≡ true = grind (arith, nat_tests, fits.id_low, fits.some, fits.most) in
    body_again (request_fields_at (read_bytes r)) read_in_range (λ f. f.op_len) (λ f. f.op_len)
    (λ f key. datagrams.Read (record { client = f.client; id = f.id; key = key })) f r.key there ranges (omega arith) (omega arith)

-- ---- an answer

abbrev answer_made : AnswerFields → List ℕ → Answer
answer_made f result = record { observer = f.observer; position = f.position; client = f.client; id = f.id; result = result }

answer_whole : (f : AnswerFields) (result : List ℕ) → f.result_len ≡ length result
    → answer_fields_bytes f ++ result ≡ answer_bytes (answer_made f result)
answer_whole f result len =
    let prefix : List ℕ = f.observer ∷ [] ++ be_bytes w32 f.position ++ be_bytes w32 f.client ++ be_bytes w64 f.id in
    append_assoc prefix (be_bytes w16 f.result_len) result ∙ ap (λ (n : ℕ). prefix ++ (be_bytes w16 n ++ result)) len

pub answer_takes : (rest : List ℕ) (d : Datagram) → IsBytes rest → answer_of rest ≡ Ok d
    → DatagramFits d × (header 10 ++ rest ≡ spelling d)
unfolding answer_of
answer_takes rest d fits e =
    let b =
    body_ok (answer_fields_at rest) answer_in_range (λ f. f.result_len) (λ f. f.result_len)
    (λ f result. datagrams.Answer (answer_made f result)) d e in
    let t = answer_fields_take rest (b.f, b.out) fits b.there in
    let len : b.f.result_len ≡ length b.out = omega (arith, b.enough, b.no_more) in
    let observer : b.f.observer ≤ 3 = grind (arith, nat_tests, b.ranges) in
    let id_low : 1 ≤ b.f.id = grind (arith, nat_tests, b.ranges) in
    let result_high : b.f.result_len ≤ MAX_RESULT_BYTES = grind (arith, nat_tests, b.ranges) in
    let whole : rest ≡ answer_bytes (answer_made b.f b.out) = t.0.parts ∙ answer_whole b.f b.out len in
    let ranges : AnswerFits (answer_made b.f b.out) = record {
      observer = observer;
      position = t.1.position;
      client = t.1.client;
      id_low = id_low;
      id = t.1.id;
      result_length = omega (arith, result_high, len);
    } in
    subst (λ (x : Datagram). DatagramFits x × (header 10 ++ rest ≡ spelling x)) b.is (ranges, ap (λ (x : List ℕ). header 10 ++ x) whole)

pub answer_again : (a : Answer) → AnswerFits a → answer_of (answer_bytes a) ≡ Ok (datagrams.Answer a)
unfolding answer_of
answer_again a fits =
    let f : AnswerFields =
    record { observer = a.observer; position = a.position; client = a.client; id = a.id; result_len = length a.result } in
    let widths : AnswerWidths f =
    record { position = fits.position; client = fits.client; id = fits.id; result_len = omega (arith, fits.result_length) } in
    let there : answer_fields_at (answer_bytes a) ≡ Some (f, a.result) =
    ap answer_fields_at (sym (answer_whole f a.result refl)) ∙ answer_fields_again f a.result widths in
    let ranges : answer_in_range f ≡ true = grind (arith, nat_tests, fits.observer, fits.id_low, fits.result_length) in
    body_again (answer_fields_at (answer_bytes a)) answer_in_range (λ f. f.result_len) (λ f. f.result_len)
    (λ f result. datagrams.Answer (answer_made f result)) f a.result there ranges (omega arith) (omega arith)

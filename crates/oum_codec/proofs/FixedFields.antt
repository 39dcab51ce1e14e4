-- The fields of a fixed size of each kind, read and written.
use Rattle.std.proofs.Common.{◌≡◌, ℕ, ◌^◌, ◌<◌, List, [], ◌∷◌, ◌++◌, Some, refl, ap, subst, ◌∙◌, append_assoc}
use Rattle.std.specs.Int.{w16, w32, w64}
use Rattle.oum_codec.specs.declared.fixed.RequestFields.{RequestFields}
use Rattle.oum_codec.specs.declared.fixed.StampedFields.{StampedFields}
use Rattle.oum_codec.specs.declared.fixed.ReplyFields.{ReplyFields}
use Rattle.oum_codec.specs.declared.fixed.InstallFields.{InstallFields}
use Rattle.oum_codec.specs.declared.fixed.PingFields.{PingFields}
use Rattle.oum_codec.specs.declared.fixed.FragmentFields.{FragmentFields}
use Rattle.oum_codec.specs.declared.fixed.AnswerFields.{AnswerFields}
use Rattle.oum_codec.specs.Numbers.{IsBytes, be_bytes, number_at, byte_at, view_at}
use Rattle.oum_codec.specs.Spelling.{view_bytes, install_bytes, ping_bytes}
use Rattle.oum_codec.specs.Places.{ViewWidths}
use Rattle.oum_codec.specs.Fixed.{request_fields_at, stamped_fields_at, reply_fields_at, install_fields_at, ping_fields_at}
use Rattle.oum_codec.specs.Fixed.{fragment_fields_at, answer_fields_at}
use Rattle.oum_codec.proofs.Steps.{bind_some, some_is}
use Rattle.oum_codec.proofs.Numbers.{Takes, Takes-then, u16_takes, u32_takes, u64_takes, u16_again, u32_again, u64_again, byte_takes}
use Rattle.oum_codec.proofs.Numbers.{view_takes, view_again}

-- ---- a request

abbrev pub request_fields_bytes : RequestFields → List ℕ
request_fields_bytes f = be_bytes w32 f.client ++ be_bytes w64 f.id ++ be_bytes w16 f.op_len

pub record RequestWidths (f : RequestFields) : Type 0 where
  pub client : f.client < 2 ^ 32
  pub id : f.id < 2 ^ 64
  pub op_len : f.op_len < 2 ^ 16

pub request_fields_take : (bytes : List ℕ) (x : RequestFields × List ℕ) → IsBytes bytes → request_fields_at bytes ≡ Some x
    → Takes bytes (request_fields_bytes x.0) x.1 × RequestWidths x.0
unfolding request_fields_at
request_fields_take bytes x fits e =
    let a = bind_some (number_at w32 bytes) _ x e in
    let b = bind_some (number_at w64 a.0.1) _ x a.2 in
    let c = bind_some (number_at w16 b.0.1) _ x b.2 in
    let t0 = u32_takes bytes a.0 fits a.1 in
    let t1 = u64_takes a.0.1 b.0 t0.0.rest_fits b.1 in
    let t2 = u16_takes b.0.1 c.0 t1.0.rest_fits c.1 in
    let e1 = Takes-then bytes _ _ _ _ t0.0 t1.0 in
    let e2 = Takes-then bytes _ _ _ _ e1 t2.0 in
    let made : RequestFields × List ℕ = (record { client = a.0.0; id = b.0.0; op_len = c.0.0 }, c.0.1) in
    subst (λ (y : RequestFields × List ℕ). Takes bytes (request_fields_bytes y.0) y.1 × RequestWidths y.0) (some_is made x c.2)
    (e2, record { client = t0.1; id = t1.1; op_len = t2.1 })

pub request_fields_again : (f : RequestFields) (rest : List ℕ) → RequestWidths f
    → request_fields_at (request_fields_bytes f ++ rest) ≡ Some (f, rest)
unfolding request_fields_at
request_fields_again f rest fits =
    let regrouped : request_fields_bytes f ++ rest ≡ be_bytes w32 f.client ++ (be_bytes w64 f.id ++ (be_bytes w16 f.op_len ++ rest)) =
    simp append_assoc in
    rw (regrouped, u32_again f.client _ fits.client, u64_again f.id _ fits.id, u16_again f.op_len rest fits.op_len) refl

-- ---- a stamped request

abbrev pub stamped_fields_bytes : StampedFields → List ℕ
stamped_fields_bytes f = be_bytes w64 f.session ++ be_bytes w64 f.number ++ request_fields_bytes f.request

pub record StampedWidths (f : StampedFields) : Type 0 where
  pub session : f.session < 2 ^ 64
  pub number : f.number < 2 ^ 64
  pub request : RequestWidths f.request

pub stamped_fields_take : (bytes : List ℕ) (x : StampedFields × List ℕ) → IsBytes bytes → stamped_fields_at bytes ≡ Some x
    → Takes bytes (stamped_fields_bytes x.0) x.1 × StampedWidths x.0
unfolding stamped_fields_at
stamped_fields_take bytes x fits e =
    let a = bind_some (number_at w64 bytes) _ x e in
    let b = bind_some (number_at w64 a.0.1) _ x a.2 in
    let c = bind_some (request_fields_at b.0.1) _ x b.2 in
    let t0 = u64_takes bytes a.0 fits a.1 in
    let t1 = u64_takes a.0.1 b.0 t0.0.rest_fits b.1 in
    let t2 = request_fields_take b.0.1 c.0 t1.0.rest_fits c.1 in
    let e1 = Takes-then bytes _ _ _ _ t0.0 t1.0 in
    let e2 = Takes-then bytes _ _ _ _ e1 t2.0 in
    let made : StampedFields × List ℕ = (record { session = a.0.0; number = b.0.0; request = c.0.0 }, c.0.1) in
    subst (λ (y : StampedFields × List ℕ). Takes bytes (stamped_fields_bytes y.0) y.1 × StampedWidths y.0) (some_is made x c.2)
    (e2, record { session = t0.1; number = t1.1; request = t2.1 })

pub stamped_fields_again : (f : StampedFields) (rest : List ℕ) → StampedWidths f
    → stamped_fields_at (stamped_fields_bytes f ++ rest) ≡ Some (f, rest)
unfolding stamped_fields_at
stamped_fields_again f rest fits =
    let regrouped : stamped_fields_bytes f ++ rest
    ≡ be_bytes w64 f.session ++ (be_bytes w64 f.number ++ (request_fields_bytes f.request ++ rest)) =
    append_assoc (be_bytes w64 f.session ++ be_bytes w64 f.number) (request_fields_bytes f.request) rest
    ∙ append_assoc (be_bytes w64 f.session) (be_bytes w64 f.number) (request_fields_bytes f.request ++ rest) in
    rw (regrouped, u64_again f.session _ fits.session, u64_again f.number _ fits.number, request_fields_again f.request rest fits.request)
    refl

-- ---- a reply

abbrev pub reply_fields_bytes : ReplyFields → List ℕ
reply_fields_bytes f = f.replica ∷ [] ++ view_bytes f.view ++ be_bytes w32 f.slot ++ be_bytes w32 f.client ++ be_bytes w64 f.id
    ++ f.tag ∷ [] ++ be_bytes w16 f.result_len

pub record ReplyWidths (f : ReplyFields) : Type 0 where
  pub view : ViewWidths f.view
  pub slot : f.slot < 2 ^ 32
  pub client : f.client < 2 ^ 32
  pub id : f.id < 2 ^ 64
  pub result_len : f.result_len < 2 ^ 16

pub reply_fields_take : (bytes : List ℕ) (x : ReplyFields × List ℕ) → IsBytes bytes → reply_fields_at bytes ≡ Some x
    → Takes bytes (reply_fields_bytes x.0) x.1 × ReplyWidths x.0
unfolding reply_fields_at
reply_fields_take bytes x fits e =
    let a = bind_some (byte_at bytes) _ x e in
    let b = bind_some (view_at a.0.1) _ x a.2 in
    let c = bind_some (number_at w32 b.0.1) _ x b.2 in
    let d = bind_some (number_at w32 c.0.1) _ x c.2 in
    let f = bind_some (number_at w64 d.0.1) _ x d.2 in
    let g = bind_some (byte_at f.0.1) _ x f.2 in
    let h = bind_some (number_at w16 g.0.1) _ x g.2 in
    let t0 = byte_takes bytes a.0 fits a.1 in
    let t1 = view_takes a.0.1 b.0 t0.rest_fits b.1 in
    let t2 = u32_takes b.0.1 c.0 t1.0.rest_fits c.1 in
    let t3 = u32_takes c.0.1 d.0 t2.0.rest_fits d.1 in
    let t4 = u64_takes d.0.1 f.0 t3.0.rest_fits f.1 in
    let t5 = byte_takes f.0.1 g.0 t4.0.rest_fits g.1 in
    let t6 = u16_takes g.0.1 h.0 t5.rest_fits h.1 in
    let e1 = Takes-then bytes _ _ _ _ t0 t1.0 in
    let e2 = Takes-then bytes _ _ _ _ e1 t2.0 in
    let e3 = Takes-then bytes _ _ _ _ e2 t3.0 in
    let e4 = Takes-then bytes _ _ _ _ e3 t4.0 in
    let e5 = Takes-then bytes _ _ _ _ e4 t5 in
    let e6 = Takes-then bytes _ _ _ _ e5 t6.0 in
    let made : ReplyFields × List ℕ =
    (record { replica = a.0.0; view = b.0.0; slot = c.0.0; client = d.0.0; id = f.0.0; tag = g.0.0; result_len = h.0.0 }, h.0.1) in
    subst (λ (y : ReplyFields × List ℕ). Takes bytes (reply_fields_bytes y.0) y.1 × ReplyWidths y.0) (some_is made x h.2)
    (e6, record { view = t1.1; slot = t2.1; client = t3.1; id = t4.1; result_len = t6.1 })

pub reply_fields_again : (f : ReplyFields) (rest : List ℕ) → ReplyWidths f → reply_fields_at (reply_fields_bytes f ++ rest) ≡ Some (f, rest)
unfolding reply_fields_at
reply_fields_again f rest fits =
    let more : List ℕ =
    be_bytes w32 f.slot ++ (be_bytes w32 f.client ++ (be_bytes w64 f.id ++ (f.tag ∷ (be_bytes w16 f.result_len ++ rest)))) in
    let regrouped : reply_fields_bytes f ++ rest ≡ f.replica ∷ (view_bytes f.view ++ more) = simp append_assoc in
    ap reply_fields_at regrouped
    ∙ rw (
      view_again f.view more fits.view,
      u32_again f.slot _ fits.slot,
      u32_again f.client _ fits.client,
      u64_again f.id _ fits.id,
      u16_again f.result_len rest fits.result_len,
    ) refl

-- ---- an install

pub install_fields_take : (bytes : List ℕ) (x : InstallFields × List ℕ) → IsBytes bytes → install_fields_at bytes ≡ Some x
    → Takes bytes (install_bytes x.0.controller x.0.sequencer x.0.session) x.1 × (x.0.session < 2 ^ 64)
unfolding install_fields_at
install_fields_take bytes x fits e =
    let a = bind_some (byte_at bytes) _ x e in
    let b = bind_some (byte_at a.0.1) _ x a.2 in
    let c = bind_some (number_at w64 b.0.1) _ x b.2 in
    let t0 = byte_takes bytes a.0 fits a.1 in
    let t1 = byte_takes a.0.1 b.0 t0.rest_fits b.1 in
    let t2 = u64_takes b.0.1 c.0 t1.rest_fits c.1 in
    let e1 = Takes-then bytes _ _ _ _ t0 t1 in
    let e2 = Takes-then bytes _ _ _ _ e1 t2.0 in
    let made : InstallFields × List ℕ = (record { controller = a.0.0; sequencer = b.0.0; session = c.0.0 }, c.0.1) in
    subst (λ (y : InstallFields × List ℕ). Takes bytes (install_bytes y.0.controller y.0.sequencer y.0.session) y.1
    × (y.0.session < 2 ^ 64))
    (some_is made x c.2) (e2, t2.1)

pub install_fields_again : (f : InstallFields) (rest : List ℕ) → f.session < 2 ^ 64
    → install_fields_at (install_bytes f.controller f.sequencer f.session ++ rest) ≡ Some (f, rest)
unfolding install_fields_at
install_fields_again f rest fits = rw (u64_again f.session rest fits) refl

-- ---- a ping

pub ping_fields_take : (bytes : List ℕ) (x : PingFields × List ℕ) → IsBytes bytes → ping_fields_at bytes ≡ Some x
    → Takes bytes (ping_bytes x.0.controller x.0.sequencer x.0.round) x.1 × (x.0.round < 2 ^ 32)
unfolding ping_fields_at
ping_fields_take bytes x fits e =
    let a = bind_some (byte_at bytes) _ x e in
    let b = bind_some (byte_at a.0.1) _ x a.2 in
    let c = bind_some (number_at w32 b.0.1) _ x b.2 in
    let t0 = byte_takes bytes a.0 fits a.1 in
    let t1 = byte_takes a.0.1 b.0 t0.rest_fits b.1 in
    let t2 = u32_takes b.0.1 c.0 t1.rest_fits c.1 in
    let e1 = Takes-then bytes _ _ _ _ t0 t1 in
    let e2 = Takes-then bytes _ _ _ _ e1 t2.0 in
    let made : PingFields × List ℕ = (record { controller = a.0.0; sequencer = b.0.0; round = c.0.0 }, c.0.1) in
    subst (λ (y : PingFields × List ℕ). Takes bytes (ping_bytes y.0.controller y.0.sequencer y.0.round) y.1 × (y.0.round < 2 ^ 32))
    (some_is made x c.2) (e2, t2.1)

pub ping_fields_again : (f : PingFields) (rest : List ℕ) → f.round < 2 ^ 32
    → ping_fields_at (ping_bytes f.controller f.sequencer f.round ++ rest) ≡ Some (f, rest)
unfolding ping_fields_at
ping_fields_again f rest fits = rw (u32_again f.round rest fits) refl

-- ---- a fragment

abbrev pub fragment_fields_bytes : FragmentFields → List ℕ
fragment_fields_bytes f = f.replica ∷ [] ++ be_bytes w64 f.message ++ be_bytes w16 f.index ++ be_bytes w16 f.count

pub record FragmentWidths (f : FragmentFields) : Type 0 where
  pub message : f.message < 2 ^ 64
  pub index : f.index < 2 ^ 16
  pub count : f.count < 2 ^ 16

pub fragment_fields_take : (bytes : List ℕ) (x : FragmentFields × List ℕ) → IsBytes bytes → fragment_fields_at bytes ≡ Some x
    → Takes bytes (fragment_fields_bytes x.0) x.1 × FragmentWidths x.0
unfolding fragment_fields_at
fragment_fields_take bytes x fits e =
    let a = bind_some (byte_at bytes) _ x e in
    let b = bind_some (number_at w64 a.0.1) _ x a.2 in
    let c = bind_some (number_at w16 b.0.1) _ x b.2 in
    let d = bind_some (number_at w16 c.0.1) _ x c.2 in
    let t0 = byte_takes bytes a.0 fits a.1 in
    let t1 = u64_takes a.0.1 b.0 t0.rest_fits b.1 in
    let t2 = u16_takes b.0.1 c.0 t1.0.rest_fits c.1 in
    let t3 = u16_takes c.0.1 d.0 t2.0.rest_fits d.1 in
    let e1 = Takes-then bytes _ _ _ _ t0 t1.0 in
    let e2 = Takes-then bytes _ _ _ _ e1 t2.0 in
    let e3 = Takes-then bytes _ _ _ _ e2 t3.0 in
    let made : FragmentFields × List ℕ = (record { replica = a.0.0; message = b.0.0; index = c.0.0; count = d.0.0 }, d.0.1) in
    subst (λ (y : FragmentFields × List ℕ). Takes bytes (fragment_fields_bytes y.0) y.1 × FragmentWidths y.0) (some_is made x d.2)
    (e3, record { message = t1.1; index = t2.1; count = t3.1 })

pub fragment_fields_again : (f : FragmentFields) (rest : List ℕ) → FragmentWidths f
    → fragment_fields_at (fragment_fields_bytes f ++ rest) ≡ Some (f, rest)
unfolding fragment_fields_at
fragment_fields_again f rest fits =
    let regrouped : fragment_fields_bytes f ++ rest
    ≡ f.replica ∷ (be_bytes w64 f.message ++ (be_bytes w16 f.index ++ (be_bytes w16 f.count ++ rest))) = simp append_assoc in
    ap fragment_fields_at regrouped
    ∙ rw (u64_again f.message _ fits.message, u16_again f.index _ fits.index, u16_again f.count rest fits.count) refl

-- ---- an answer

abbrev pub answer_fields_bytes : AnswerFields → List ℕ
answer_fields_bytes f =
    f.observer ∷ [] ++ be_bytes w32 f.position ++ be_bytes w32 f.client ++ be_bytes w64 f.id ++ be_bytes w16 f.result_len

pub record AnswerWidths (f : AnswerFields) : Type 0 where
  pub position : f.position < 2 ^ 32
  pub client : f.client < 2 ^ 32
  pub id : f.id < 2 ^ 64
  pub result_len : f.result_len < 2 ^ 16

pub answer_fields_take : (bytes : List ℕ) (x : AnswerFields × List ℕ) → IsBytes bytes → answer_fields_at bytes ≡ Some x
    → Takes bytes (answer_fields_bytes x.0) x.1 × AnswerWidths x.0
unfolding answer_fields_at
answer_fields_take bytes x fits e =
    let a = bind_some (byte_at bytes) _ x e in
    let b = bind_some (number_at w32 a.0.1) _ x a.2 in
    let c = bind_some (number_at w32 b.0.1) _ x b.2 in
    let d = bind_some (number_at w64 c.0.1) _ x c.2 in
    let f = bind_some (number_at w16 d.0.1) _ x d.2 in
    let t0 = byte_takes bytes a.0 fits a.1 in
    let t1 = u32_takes a.0.1 b.0 t0.rest_fits b.1 in
    let t2 = u32_takes b.0.1 c.0 t1.0.rest_fits c.1 in
    let t3 = u64_takes c.0.1 d.0 t2.0.rest_fits d.1 in
    let t4 = u16_takes d.0.1 f.0 t3.0.rest_fits f.1 in
    let e1 = Takes-then bytes _ _ _ _ t0 t1.0 in
    let e2 = Takes-then bytes _ _ _ _ e1 t2.0 in
    let e3 = Takes-then bytes _ _ _ _ e2 t3.0 in
    let e4 = Takes-then bytes _ _ _ _ e3 t4.0 in
    let made : AnswerFields × List ℕ =
    (record { observer = a.0.0; position = b.0.0; client = c.0.0; id = d.0.0; result_len = f.0.0 }, f.0.1) in
    subst (λ (y : AnswerFields × List ℕ). Takes bytes (answer_fields_bytes y.0) y.1 × AnswerWidths y.0) (some_is made x f.2)
    (e4, record { position = t1.1; client = t2.1; id = t3.1; result_len = t4.1 })

pub answer_fields_again : (f : AnswerFields) (rest : List ℕ) → AnswerWidths f
    → answer_fields_at (answer_fields_bytes f ++ rest) ≡ Some (f, rest)
unfolding answer_fields_at
answer_fields_again f rest fits =
    let regrouped : answer_fields_bytes f ++ rest
    ≡ f.observer ∷ (be_bytes w32 f.position ++ (be_bytes w32 f.client ++ (be_bytes w64 f.id ++ (be_bytes w16 f.result_len ++ rest)))) =
    simp append_assoc in
    ap answer_fields_at regrouped
    ∙ rw (
      u32_again f.position _ fits.position,
      u32_again f.client _ fits.client,
      u64_again f.id _ fits.id,
      u16_again f.result_len rest fits.result_len,
    ) refl

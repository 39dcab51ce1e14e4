-- What the desk told is passed on: each answer to who asked, and to nobody else.
use Rattle.std.proofs.Common.{◌≡◌, ℕ, Bool, true, false, List, [], ◌∷◌, ◌++◌, Option, Some, None, refl, sym, ap, subst, ◌∙◌, inl, inr, arith, length}
use Rattle.std.proofs.Common.{append-nil, append_assoc}
use Rattle.std.specs.Prelude.{nat_le}
use Rattle.std.specs.FinMap as finite
use Rattle.std.proofs.lemmas.Bool.{ne_eqb, cases_eq}
use Rattle.nop_types.specs.Lists.{Has}
use Rattle.nop_types.specs.declared.output.Out.{Out}
use Rattle.nop_types.specs.declared.output.Out.TheVariants as outs
use Rattle.lemmas.proofs.Members.{Has-first, Has-rest}
use Rattle.desk.specs.declared.submitter.Labelled.{Labelled}
use Rattle.gate_core.specs.declared.act.Act.{Act}
use Rattle.gate_core.specs.declared.act.Act.TheVariants.{Reply}
use Rattle.gate_core.specs.declared.gate_state.GateState.{GateState}
use Rattle.gate_core.specs.declared.session.Session.{Session}
use Rattle.gate_core.specs.declared.session.UnderWay.{UnderWay}
use Rattle.kv_resp.specs.declared.demand.Form.TheVariants.{Value}
use Rattle.kv_resp.specs.Results.{reply_to}
use Rattle.gate_core.specs.Gates.{answer, answer_owner, answer_user, answered, answered_if, awaits, begin_read, begin_user, begun, end_read, form_reply, fresh_if, is_new, read_answer_if, read_answered, read_user, reads_by, session_of, slot_in, tell, tell_all, tell_out, with_session, without_owner, without_reader}
use Rattle.gate_core.specs.Runs.{Heard, ByDesk, IsAsked, IsResult, Taken, replies_to, reply_if, reply_in}
use Rattle.gate_core.proofs.Entries.{put_elsewhere, put_here}
use Rattle.gate_core.proofs.Serving.{Fits, IsAnswer, IsInside, IsServing, serving_answered, serving_begun, serving_read}

pub replies_append : (user : ℕ) (xs ys : List Act) → replies_to user (xs ++ ys) ≡ replies_to user xs ++ replies_to user ys
replies_append user [] ys = refl
replies_append user (x ∷ xs) ys =
    ap (λ (rs : List (List ℕ)). reply_in user x ++ rs) (replies_append user xs ys)
    ∙ sym (append_assoc (reply_in user x) (replies_to user xs) (replies_to user ys))

-- a reply to another user is none to this one
pub other_reply : (user other : ℕ) (bytes : List ℕ) → (user ≡ other → ⊥) → replies_to user (Reply other bytes ∷ []) ≡ []
other_reply user other bytes d = ap (λ (b : Bool). reply_if b bytes ++ []) (ne_eqb other user (λ e. d (sym e)))

-- nor is one to a read of another user
pub other_fresh : (user other position : ℕ) (s : Session) (result : List ℕ) (b : Bool) → (user ≡ other → ⊥)
    → replies_to user (fresh_if b other position s result).1 ≡ []
other_fresh user other position s result true d = other_reply user other (reply_to Value result) d
other_fresh user other position s result false d = refl

module _ (ops : List Taken) (told : List Heard) (user : ℕ) (bytes : List ℕ) where
  -- nothing that matters to the user changed
  pub inside_same : (replies : List (List ℕ)) (g h : GateState) → session_of h user ≡ session_of g user → is_new h user ≡ is_new g user
      → IsInside ops told user bytes replies g → IsInside ops told user bytes replies h
  inside_same replies g h same known is = record {
    known = known ∙ is.known;
    fits = subst (λ (o : Option Session). Fits ops told user bytes replies o) (sym same) is.fits;
  }

  -- nor was it replied anything
  pub inside_quiet : (replies : List (List ℕ)) (none : List (List ℕ)) (g : GateState) → none ≡ [] → IsInside ops told user bytes replies g
      → IsInside ops told user bytes (replies ++ none) g
  inside_quiet replies none g e is =
      subst (λ (rs : List (List ℕ)). IsInside ops told user bytes rs g) (sym (append-nil replies) ∙ ap (λ (ns : List (List ℕ)). replies ++ ns) (sym e)) is

  abbrev pub Answers : (replies : List (List ℕ)) → (GateState × List Act) → Type 0
  Answers replies p = IsInside ops told user bytes (replies ++ replies_to user p.1) p.0

  module _ (slot ticket : ℕ) (result : List ℕ) (is : IsResult told ticket slot result) (replies : List (List ℕ)) where
    others : (other : ℕ) (s : Session) (b : Bool) → (user ≡ other → ⊥) → replies_to user (answered_if b other slot s result).1 ≡ []
    others other s true d = other_reply user other (form_reply s.asked result) d
    others other s false d = refl

    own : (o : Option Session) (g : GateState) → session_of g user ≡ o → IsInside ops told user bytes replies g
        → Answers replies (answer_user o g user slot ticket result)
    own None g e h = inside_quiet replies [] g refl h
    own (Some s) g e h =
        let serving : IsServing ops told user bytes replies s = subst (λ (o : Option Session). Fits ops told user bytes replies o) e h.fits in
        record {
          known = h.known;
          fits = subst (λ (o : Option Session). Fits ops told user bytes (replies ++ replies_to user (answered user slot s ticket result).1) o)
              (sym (put_here g.sessions user (answered user slot s ticket result).0))
              (serving_answered ops told user slot ticket result is bytes replies s (awaits s.asked ticket) refl serving);
        }

    apart : (other : ℕ) (o : Option Session) (g : GateState) → (user ≡ other → ⊥) → IsInside ops told user bytes replies g
        → Answers replies (answer_user o g other slot ticket result)
    apart other None g d h = inside_quiet replies [] g refl h
    apart other (Some s) g d h =
        inside_quiet replies (replies_to user (answered other slot s ticket result).1) (with_session g other (answered other slot s ticket result).0)
        (others other s (awaits s.asked ticket) d)
        (inside_same replies g (with_session g other (answered other slot s ticket result).0)
        (put_elsewhere g.sessions other (answered other slot s ticket result).0 user d) refl h)

    to_user : (other : ℕ) (g : GateState) → IsInside ops told user bytes replies g
        → Answers replies (answer_user (session_of g other) g other slot ticket result)
    to_user other g h = elim (cases_eq user other) [
      | inl e ↦ subst (λ (v : ℕ). Answers replies (answer_user (session_of g v) g v slot ticket result)) e (own (session_of g user) g refl h)
      | inr d ↦ apart other (session_of g other) g d h
    ]

    to_owner : (o : Option (Option ℕ)) (g : GateState) → IsInside ops told user bytes replies g → Answers replies (answer_owner o g slot ticket result)
    to_owner (Some (Some other)) g h = to_user other g h
    to_owner (Some None) g h = inside_quiet replies [] g refl h
    to_owner None g h = inside_quiet replies [] g refl h

    pub answer_keeps : (g : GateState) → IsInside ops told user bytes replies g → Answers replies (answer (Some ticket) g slot result)
    answer_keeps g h =
        to_owner (finite.get g.owners ticket) (without_owner g ticket) (inside_same replies g (without_owner g ticket) refl refl h)

  -- ---- reads

  module _ (way : UnderWay) (key : List ℕ) (is : IsAsked told way.core way.id way.observer key (length bytes)) (replies : List (List ℕ)) where
    begin_own : (o : Option Session) (g : GateState) → session_of g user ≡ o → IsInside ops told user bytes replies g
        → IsInside ops told user bytes replies (begin_user o g user way key)
    begin_own None g e h = h
    begin_own (Some s) g e h =
        let serving : IsServing ops told user bytes replies s = subst (λ (o : Option Session). Fits ops told user bytes replies o) e h.fits in
        record {
          known = h.known;
          fits = subst (λ (o : Option Session). Fits ops told user bytes replies o)
              (sym (put_here g.sessions user (record s { asked = begun s.asked way key })))
              (serving_begun ops told user bytes replies s way key is serving);
        }

    begin_other : (other : ℕ) (o : Option Session) (g : GateState) → (user ≡ other → ⊥) → IsInside ops told user bytes replies g
        → IsInside ops told user bytes replies (begin_user o g other way key)
    begin_other other None g d h = h
    begin_other other (Some s) g d h =
        inside_same replies g (with_session g other (record s { asked = begun s.asked way key }))
        (put_elsewhere g.sessions other (record s { asked = begun s.asked way key }) user d) refl h

    begin_keeps : (o : Option ℕ) (g : GateState) → IsInside ops told user bytes replies g
        → IsInside ops told user bytes replies (begin_read o g way key)
    begin_keeps None g h = h
    begin_keeps (Some other) g h = elim (cases_eq user other) [
      | inl e ↦ subst (λ (v : ℕ). IsInside ops told user bytes replies (begin_user (session_of g v) g v way key)) e
          (begin_own (session_of g user) g refl h)
      | inr d ↦ begin_other other (session_of g other) g d h
    ]

  module _ (way : UnderWay) (position : ℕ) (result : List ℕ) (is : IsAnswer told way position result) (replies : List (List ℕ)) where
    read_others : (other : ℕ) (s : Session) (b : Bool) → (user ≡ other → ⊥) → replies_to user (read_answer_if b other position s result).1 ≡ []
    read_others other s true d = other_fresh user other position s result (nat_le s.seen position) d
    read_others other s false d = refl

    end_own : (o : Option Session) (g : GateState) → session_of g user ≡ o → IsInside ops told user bytes replies g
        → Answers replies (read_user o g user position way result)
    end_own None g e h = inside_quiet replies [] g refl h
    end_own (Some s) g e h =
        let serving : IsServing ops told user bytes replies s = subst (λ (o : Option Session). Fits ops told user bytes replies o) e h.fits in
        let p = read_answered user position s way result in
        record {
          known = h.known;
          fits = subst (λ (o : Option Session). Fits ops told user bytes (replies ++ replies_to user p.1) o) (sym (put_here g.sessions user p.0))
              (serving_read ops told user way position result is bytes replies s (reads_by s.asked way) refl serving);
        }

    end_other : (other : ℕ) (o : Option Session) (g : GateState) → (user ≡ other → ⊥) → IsInside ops told user bytes replies g
        → Answers replies (read_user o g other position way result)
    end_other other None g d h = inside_quiet replies [] g refl h
    end_other other (Some s) g d h =
        let p = read_answered other position s way result in
        inside_quiet replies (replies_to user p.1) (with_session g other p.0) (read_others other s (reads_by s.asked way) d)
        (inside_same replies g (with_session g other p.0) (put_elsewhere g.sessions other p.0 user d) refl h)

    end_keeps : (o : Option ℕ) (g : GateState) → IsInside ops told user bytes replies g → Answers replies (end_read o g position way result)
    end_keeps None g h = inside_quiet replies [] g refl h
    end_keeps (Some other) g h = elim (cases_eq user other) [
      | inl e ↦ subst (λ (v : ℕ). Answers replies (read_user (session_of g v) g v position way result)) e (end_own (session_of g user) g refl h)
      | inr d ↦ end_other other (session_of g other) g d h
    ]

  -- ---- what cores give

  module _ (came : List ℕ) where
    tell_out_keeps : (core : ℕ) (ticket : Option ℕ) (out : Out) (g : GateState) (replies : List (List ℕ))
        → Has told (ByDesk (record { core = core; ticket = ticket; out = out }) (slot_in came) (length bytes))
        → IsInside ops told user bytes replies g → Answers replies (tell_out came core ticket out g)
    tell_out_keeps core ticket (outs.Send dest sent) g replies has h = inside_quiet replies [] g refl h
    tell_out_keeps core ticket (outs.Submitted request) g replies has h = inside_quiet replies [] g refl h
    tell_out_keeps core None (outs.Accepted client id result) g replies has h = inside_quiet replies [] g refl h
    tell_out_keeps core (Some t) (outs.Accepted client id result) g replies has h =
        answer_keeps (slot_in came) t result (record { core = core; client = client; id = id; sent = length bytes; has = has }) replies g h
    tell_out_keeps core ticket (outs.Reading client id observer key) g replies has h =
        let way : UnderWay = record { core = core; id = id; observer = observer } in
        let begun_now = begin_read (finite.get g.readers core) g way key in
        inside_quiet replies [] begun_now refl
        (begin_keeps way key (record { client = client; ticket = ticket; slot = slot_in came; sent = length bytes; after_ = omega arith; has = has }) replies (finite.get g.readers core) g h)
    tell_out_keeps core ticket (outs.Answered client id observer position result) g replies has h =
        let way : UnderWay = record { core = core; id = id; observer = observer } in
        end_keeps way position result (record { client = client; ticket = ticket; reply_slot = slot_in came; sent = length bytes; has = has }) replies
        (finite.get g.readers core) (without_reader g core) (inside_same replies g (without_reader g core) refl refl h)
    tell_out_keeps core ticket _ g replies has h = inside_quiet replies [] g refl h

    pub tell_all_keeps : (ls : List Labelled) (g : GateState) (replies : List (List ℕ))
        → ((l : Labelled) → Has ls l → Has told (ByDesk l (slot_in came) (length bytes))) → IsInside ops told user bytes replies g
        → Answers replies (tell_all came ls g)
    tell_all_keeps [] g replies has h = inside_quiet replies [] g refl h
    tell_all_keeps (l ∷ ls) g replies has h =
        let first : Answers replies (tell came l g) = tell_out_keeps l.core l.ticket l.out g replies (has l (Has-first l l ls refl)) h in
        let all = tell_all_keeps ls (tell came l g).0 (replies ++ replies_to user (tell came l g).1) (λ k m. has k (Has-rest k l ls m)) first in
        subst (λ (rs : List (List ℕ)). IsInside ops told user bytes rs (tell_all came ls (tell came l g).0).0)
        (append_assoc replies (replies_to user (tell came l g).1) (replies_to user (tell_all came ls (tell came l g).0).1)
        ∙ ap (λ (rs : List (List ℕ)). replies ++ rs) (sym (replies_append user (tell came l g).1 (tell_all came ls (tell came l g).0).1))) all

-- ---- the desk stays

owner_desk : (o : Option (Option ℕ)) (g : GateState) (slot ticket : ℕ) (result : List ℕ) → (answer_owner o g slot ticket result).0.desk ≡ g.desk
owner_desk (Some (Some user)) g slot ticket result = user_desk (session_of g user) user
  where
    user_desk : (o : Option Session) (user : ℕ) → (answer_user o g user slot ticket result).0.desk ≡ g.desk
    user_desk None user = refl
    user_desk (Some s) user = refl
owner_desk (Some None) g slot ticket result = refl
owner_desk None g slot ticket result = refl

begin_user_desk : (o : Option Session) (g : GateState) (user : ℕ) (way : UnderWay) (key : List ℕ) → (begin_user o g user way key).desk ≡ g.desk
begin_user_desk None g user way key = refl
begin_user_desk (Some s) g user way key = refl

begin_desk : (o : Option ℕ) (g : GateState) (way : UnderWay) (key : List ℕ) → (begin_read o g way key).desk ≡ g.desk
begin_desk None g way key = refl
begin_desk (Some user) g way key = begin_user_desk (session_of g user) g user way key

read_user_desk : (o : Option Session) (g : GateState) (user position : ℕ) (way : UnderWay) (result : List ℕ)
    → (read_user o g user position way result).0.desk ≡ g.desk
read_user_desk None g user position way result = refl
read_user_desk (Some s) g user position way result = refl

end_desk : (o : Option ℕ) (g : GateState) (position : ℕ) (way : UnderWay) (result : List ℕ) → (end_read o g position way result).0.desk ≡ g.desk
end_desk None g position way result = refl
end_desk (Some user) g position way result = read_user_desk (session_of g user) g user position way result

module _ (came : List ℕ) where
  out_desk : (core : ℕ) (ticket : Option ℕ) (out : Out) (g : GateState) → (tell_out came core ticket out g).0.desk ≡ g.desk
  out_desk core ticket (outs.Send dest sent) g = refl
  out_desk core ticket (outs.Submitted request) g = refl
  out_desk core None (outs.Accepted client id result) g = refl
  out_desk core (Some t) (outs.Accepted client id result) g = owner_desk (finite.get g.owners t) (without_owner g t) (slot_in came) t result
  out_desk core ticket (outs.Reading client id observer key) g =
      begin_desk (finite.get g.readers core) g (record { core = core; id = id; observer = observer }) key
  out_desk core ticket (outs.Answered client id observer position result) g =
      end_desk (finite.get g.readers core) (without_reader g core) position (record { core = core; id = id; observer = observer }) result
  out_desk core ticket _ g = refl

  pub tell_desk : (ls : List Labelled) (g : GateState) → (tell_all came ls g).0.desk ≡ g.desk
  tell_desk [] g = refl
  tell_desk (l ∷ ls) g = tell_desk ls (tell came l g).0 ∙ out_desk l.core l.ticket l.out g

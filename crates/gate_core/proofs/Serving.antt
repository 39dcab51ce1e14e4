-- What a user was replied so far, and what is open of it.
use Rattle.std.proofs.Common.{◌≡◌, ℕ, Bool, true, false, List, [], ◌∷◌, ◌++◌, Option, Some, None, refl, sym, ap, subst, ◌∙◌, inl, inr}
use Rattle.std.proofs.Common.{append-nil, append_assoc, true≢false, max, ◌≤◌, ◌+◌, ◌-◌, arith, length, length-append}
use Rattle.std.specs.Prelude.{◌⊎◌, ⊤}
use Rattle.std.specs.Prelude.{slice_get, nat_le, ◌==◌, ◌&&◌}
use Rattle.std.specs.Cmp.Lexicographic.{same_text}
use Rattle.nop_types.specs.Lists.{Has}
use Rattle.nop_types.specs.Machine.{Machine}
use Rattle.nop_types.specs.declared.output.Out.TheVariants as outs
use Rattle.std.proofs.lemmas.Bool.{eq-eqb, eqb-true, and_parts, leb-true}
use Rattle.lemmas.proofs.Members.{Has-append_left}
use Rattle.lemmas.proofs.Places.{slice_get-append_left}
use Rattle.resp.specs.Spelling.{spelled}
use Rattle.kv_resp.specs.Results.{reply_to}
use Rattle.kv_resp.specs.declared.demand.Form.TheVariants.{Value}
use Rattle.kv_resp.specs.Table as table
use Rattle.kv_resp.specs.Table.{Action, asked}
use Rattle.observer.specs.ObserverSteps.{Observer}
use Rattle.gate_core.specs.declared.act.Act.TheVariants.{Reply}
use Rattle.gate_core.specs.declared.gate_state.GateState.{GateState}
use Rattle.gate_core.specs.declared.session.Asked.{Asked}
use Rattle.gate_core.specs.declared.session.InFlight.{InFlight}
use Rattle.gate_core.specs.declared.session.InFlight.TheVariants as flight
use Rattle.gate_core.specs.declared.session.Reading as reads
use Rattle.gate_core.specs.declared.session.UnderWay.{UnderWay}
use Rattle.gate_core.specs.declared.session.Session.{Session}
use Rattle.gate_core.specs.Gates.{answered_if, awaits, begun, begun_if, form_reply, fresh_if, is_new, is_way, key_if, key_of, near_answer, no_observers, read_answer_if, reads_by, same_key, session_of, unread}
use Rattle.gate_core.specs.Runs.{AreReplied, ByDesk, Exchange, end_of, Heard, OfNear, IsAnswered, IsAsked, IsFreshRead, IsNearRead, IsRead, IsEnd, IsReplied, IsResult, IsServed, Taken, replies_of, replies_to, reply_if, requests_of}

-- a request that was read, whose op is in flight, and the bytes behind it
pub record IsOpen (ops : List Taken) (user : ℕ) (xs : List Exchange) (bytes waiting : List ℕ) (a : Asked) : Type 0 where
  pub arguments : List (List ℕ)
  pub op : List ℕ
  pub asks : asked arguments ≡ table.Execute op a.form
  pub taken : slice_get ops a.ticket ≡ Some (record { owner = Some user; op = op })
  pub bytes_are : bytes ≡ requests_of xs ++ (spelled arguments ++ waiting)

-- where a core has a read of this key under way, it asked for it, when the user had sent so many bytes
abbrev pub IsWay : List Heard → (key : List ℕ) → (end_ : ℕ) → Option UnderWay → Type 0
IsWay told key end None = ⊤
IsWay told key end (Some way) = IsAsked told way.core way.id way.observer key end

-- where the bytes of these requests end
abbrev pub ends_of : (start : ℕ) → List Exchange → ℕ
ends_of start [] = start
ends_of start (x ∷ xs) = ends_of (end_of start x) xs

-- a request that was read, whose read is in flight, and the bytes behind it
pub record IsOpenRead (told : List Heard) (xs : List Exchange) (bytes waiting : List ℕ) (r : reads.Reading) : Type 0 where
  pub arguments : List (List ℕ)
  pub asks : asked arguments ≡ table.ReadAt r.key
  pub way : IsWay told r.key (ends_of 0 xs + length (spelled arguments)) r.under_way
  pub bytes_are : bytes ≡ requests_of xs ++ (spelled arguments ++ waiting)

abbrev pub Rests : List Taken → List Heard → (user : ℕ) → List Exchange → (bytes waiting : List ℕ) → Option InFlight → Type 0
Rests ops told user xs bytes waiting None = bytes ≡ requests_of xs ++ waiting
Rests ops told user xs bytes waiting (Some (flight.Op a)) = IsOpen ops user xs bytes waiting a
Rests ops told user xs bytes waiting (Some (flight.Read r)) = IsOpenRead told xs bytes waiting r

-- the greatest slot of these, or this one
abbrev pub greatest : (least : ℕ) → List Exchange → ℕ
greatest least [] = least
greatest least (x ∷ xs) = greatest (max least x.slot) xs

-- of a user that is connected
pub record IsServing (ops : List Taken) (told : List Heard) (user : ℕ) (bytes : List ℕ) (replies : List (List ℕ)) (s : Session) : Type 0 where
  pub exchanges : List Exchange
  pub each : AreReplied ops told user 0 0 exchanges
  pub replies_are : replies ≡ replies_of exchanges
  pub seen : s.seen ≡ greatest 0 exchanges
  pub rests : Rests ops told user exchanges bytes s.waiting s.asked

-- of one that may be connected
abbrev pub Fits : List Taken → List Heard → (user : ℕ) → (bytes : List ℕ) → (replies : List (List ℕ)) → Option Session → Type 0
Fits ops told user bytes replies (Some s) = IsServing ops told user bytes replies s
Fits ops told user bytes replies None = IsServed ops told user bytes replies

pub record IsInside (ops : List Taken) (told : List Heard) (user : ℕ) (bytes : List ℕ) (replies : List (List ℕ)) (g : GateState) : Type 0 where
  pub known : is_new g user ≡ false
  pub fits : Fits ops told user bytes replies (session_of g user)

-- ---- exchanges

requests_push : (xs : List Exchange) (x : Exchange) → requests_of (xs ++ x ∷ []) ≡ requests_of xs ++ spelled x.arguments
requests_push [] x = append-nil (spelled x.arguments)
requests_push (y ∷ xs) x =
    ap (λ bs. spelled y.arguments ++ bs) (requests_push xs x) ∙ sym (append_assoc (spelled y.arguments) (requests_of xs) (spelled x.arguments))

replies_push : (xs : List Exchange) (x : Exchange) → replies_of (xs ++ x ∷ []) ≡ replies_of xs ++ x.reply ∷ []
replies_push [] x = refl
replies_push (y ∷ xs) x = ap (λ rs. y.reply ∷ rs) (replies_push xs x)

greatest_push : (least : ℕ) (xs : List Exchange) (x : Exchange) → greatest least (xs ++ x ∷ []) ≡ max (greatest least xs) x.slot
greatest_push least [] x = refl
greatest_push least (y ∷ xs) x = greatest_push (max least y.slot) xs x

pub max_none : (n : ℕ) → n ≡ max n 0
max_none n = omega arith

pub max_above : (n m : ℕ) → n ≤ m → m ≡ max n m
max_above n m h = omega (arith, h)

module _ (ops : List Taken) (told : List Heard) (user : ℕ) where
  each_push : (least start : ℕ) (xs : List Exchange) (x : Exchange) → AreReplied ops told user least start xs
      → IsReplied ops told user (greatest least xs) (end_of (ends_of start xs) x) (asked x.arguments) x.ticket x.slot x.reply
      → AreReplied ops told user least start (xs ++ x ∷ [])
  each_push least start [] x h k = (k, tt)
  each_push least start (y ∷ xs) x h k = (h.0, each_push (max least y.slot) (end_of start y) xs x h.1 k)

  -- one more request is replied to: all its bytes were taken
  module _ (xs : List Exchange) (x : Exchange) (bytes rest : List ℕ) (replies : List (List ℕ))
      (each : AreReplied ops told user 0 0 xs)
      (is : IsReplied ops told user (greatest 0 xs) (end_of (ends_of 0 xs) x) (asked x.arguments) x.ticket x.slot x.reply)
      (bytes_are : bytes ≡ requests_of xs ++ (spelled x.arguments ++ rest)) (replies_are : replies ≡ replies_of xs) where
    bytes_push : bytes ≡ requests_of (xs ++ x ∷ []) ++ rest
    bytes_push =
        bytes_are ∙ sym (append_assoc (requests_of xs) (spelled x.arguments) rest)
        ∙ ap (λ (bs : List ℕ). bs ++ rest) (sym (requests_push xs x))

    replied_push : replies ++ x.reply ∷ [] ≡ replies_of (xs ++ x ∷ [])
    replied_push = ap (λ (rs : List (List ℕ)). rs ++ x.reply ∷ []) replies_are ∙ sym (replies_push xs x)

    pub served_push : IsServed ops told user bytes (replies ++ x.reply ∷ [])
    served_push = record {
      exchanges = xs ++ x ∷ [];
      rest = rest;
      end_ = [];
      requests = bytes_push;
      each = each_push 0 0 xs x each is;
      replies_are = replied_push ∙ sym (append-nil (replies_of (xs ++ x ∷ [])));
      ends = inl refl;
    }

    pub serving_push : (seen : ℕ) → seen ≡ max (greatest 0 xs) x.slot
        → IsServing ops told user bytes (replies ++ x.reply ∷ []) (record { waiting = rest; asked = None; seen = seen })
    serving_push seen seen_is = record {
      exchanges = xs ++ x ∷ [];
      each = each_push 0 0 xs x each is;
      replies_are = replied_push;
      seen = seen_is ∙ sym (greatest_push 0 xs x);
      rests = bytes_push;
    }

-- ---- what was taken and told stays

module _ (ops more : List Taken) (told also : List Heard) (user : ℕ) where
  asked_more : (core id observer : ℕ) (key : List ℕ) (end_ : ℕ) → IsAsked told core id observer key end_
      → IsAsked (told ++ also) core id observer key end_
  asked_more core id observer key end h = record {
    client = h.client;
    ticket = h.ticket;
    slot = h.slot;
    sent = h.sent;
    after_ = h.after_;
    has = Has-append_left told also _ h.has;
  }

  read_more : (key : List ℕ) (end_ slot : ℕ) (reply : List ℕ) → IsRead told key end_ slot reply → IsRead (told ++ also) key end_ slot reply
  read_more key end slot reply h = record {
    core = h.core;
    id = h.id;
    observer = h.observer;
    asks = asked_more h.core h.id h.observer key end h.asks;
    client = h.client;
    ticket = h.ticket;
    reply_slot = h.reply_slot;
    sent = h.sent;
    result = h.result;
    answers = Has-append_left told also _ h.answers;
    replied = h.replied;
  }

  near_more : (key : List ℕ) (end_ slot : ℕ) (reply : List ℕ) → IsNearRead told key end_ slot reply
      → IsNearRead (told ++ also) key end_ slot reply
  near_more key end slot reply h = record {
    near = h.near;
    sent = h.sent;
    after_ = h.after_;
    looks = Has-append_left told also _ h.looks;
    position_is = h.position_is;
    replied = h.replied;
  }

  source_more : (key : List ℕ) (end_ slot : ℕ) (reply : List ℕ) → IsRead told key end_ slot reply ⊎ IsNearRead told key end_ slot reply
      → IsRead (told ++ also) key end_ slot reply ⊎ IsNearRead (told ++ also) key end_ slot reply
  source_more key end slot reply (inl h) = inl (read_more key end slot reply h)
  source_more key end slot reply (inr h) = inr (near_more key end slot reply h)

  either_more : (key : List ℕ) (end_ least slot : ℕ) (reply : List ℕ) → (reply ≡ no_observers) ⊎ IsFreshRead told key end_ least slot reply
      → (reply ≡ no_observers) ⊎ IsFreshRead (told ++ also) key end_ least slot reply
  either_more key end least slot reply (inl e) = inl e
  either_more key end least slot reply (inr h) = inr (record { read = source_more key end slot reply h.read; fresh = h.fresh })

  replied_more : (least end_ : ℕ) (action : Action) (ticket : Option ℕ) (slot : ℕ) (reply : List ℕ)
      → IsReplied ops told user least end_ action ticket slot reply → IsReplied (ops ++ more) (told ++ also) user least end_ action ticket slot reply
  replied_more least end (table.Execute op form) (Some t) slot reply h = record {
    taken = slice_get-append_left ops more t _ h.taken;
    result = h.result;
    accepted = record {
      core = h.accepted.core;
      client = h.accepted.client;
      id = h.accepted.id;
      sent = h.accepted.sent;
      has = Has-append_left told also _ h.accepted.has;
    };
    replied = h.replied;
  }
  replied_more least end (table.Execute op form) None slot reply h = h
  replied_more least end (table.ReadAt key) None slot reply h = either_more key end least slot reply h
  replied_more least end table.Info None slot reply h =
      record { watch = h.watch; shown = Has-append_left told also _ h.shown; replied = h.replied }
  replied_more least end (table.Answer bytes) None slot reply h = h
  replied_more least end (table.End bytes) None slot reply h = h
  replied_more least end (table.ReadAt key) (Some t) slot reply h = absurd h
  replied_more least end table.Info (Some t) slot reply h = absurd h
  replied_more least end (table.Answer bytes) (Some t) slot reply h = absurd h
  replied_more least end (table.End bytes) (Some t) slot reply h = absurd h

  pub each_more : (least start : ℕ) (xs : List Exchange) → AreReplied ops told user least start xs
      → AreReplied (ops ++ more) (told ++ also) user least start xs
  each_more least start [] h = tt
  each_more least start (x ∷ xs) h =
      (replied_more least (end_of start x) (asked x.arguments) x.ticket x.slot x.reply h.0, each_more (max least x.slot) (end_of start x) xs h.1)

  way_more : (key : List ℕ) (end_ : ℕ) (way : Option UnderWay) → IsWay told key end_ way → IsWay (told ++ also) key end_ way
  way_more key end None h = h
  way_more key end (Some way) h = asked_more way.core way.id way.observer key end h

  rests_more : (xs : List Exchange) (bytes waiting : List ℕ) (a : Option InFlight) → Rests ops told user xs bytes waiting a
      → Rests (ops ++ more) (told ++ also) user xs bytes waiting a
  rests_more xs bytes waiting None h = h
  rests_more xs bytes waiting (Some (flight.Read r)) h = record {
    arguments = h.arguments;
    asks = h.asks;
    way = way_more r.key (ends_of 0 xs + length (spelled h.arguments)) r.under_way h.way;
    bytes_are = h.bytes_are;
  }
  rests_more xs bytes waiting (Some (flight.Op a)) h = record {
    arguments = h.arguments;
    op = h.op;
    asks = h.asks;
    taken = slice_get-append_left ops more a.ticket _ h.taken;
    bytes_are = h.bytes_are;
  }

  pub serving_more : (bytes : List ℕ) (replies : List (List ℕ)) (s : Session) → IsServing ops told user bytes replies s
      → IsServing (ops ++ more) (told ++ also) user bytes replies s
  serving_more bytes replies s h = record {
    exchanges = h.exchanges;
    each = each_more 0 0 h.exchanges h.each;
    replies_are = h.replies_are;
    seen = h.seen;
    rests = rests_more h.exchanges bytes s.waiting s.asked h.rests;
  }

  pub served_more : (bytes : List ℕ) (replies : List (List ℕ)) → IsServed ops told user bytes replies
      → IsServed (ops ++ more) (told ++ also) user bytes replies
  served_more bytes replies h = record {
    exchanges = h.exchanges;
    rest = h.rest;
    end_ = h.end_;
    requests = h.requests;
    each = each_more 0 0 h.exchanges h.each;
    replies_are = h.replies_are;
    ends = h.ends;
  }

  pub fits_more : (bytes : List ℕ) (replies : List (List ℕ)) (o : Option Session) → Fits ops told user bytes replies o
      → Fits (ops ++ more) (told ++ also) user bytes replies o
  fits_more bytes replies None h = served_more bytes replies h
  fits_more bytes replies (Some s) h = serving_more bytes replies s h

-- ---- more bytes come

-- what is behind what was read grows
behind : (xs more : List ℕ) (bytes waiting : List ℕ) → bytes ≡ xs ++ waiting → bytes ++ more ≡ xs ++ (waiting ++ more)
behind xs more bytes waiting e = ap (λ (bs : List ℕ). bs ++ more) e ∙ append_assoc xs waiting more

module _ (ops : List Taken) (told : List Heard) (user : ℕ) (bytes more : List ℕ) (replies : List (List ℕ)) where
  pub served_bytes : IsServed ops told user bytes replies → IsServed ops told user (bytes ++ more) replies
  served_bytes h = record {
    exchanges = h.exchanges;
    rest = h.rest ++ more;
    end_ = h.end_;
    requests = behind (requests_of h.exchanges) more bytes h.rest h.requests;
    each = h.each;
    replies_are = h.replies_are;
    ends = h.ends;
  }

  behind_open : (xs : List Exchange) (waiting : List ℕ) (arguments : List (List ℕ)) → bytes ≡ requests_of xs ++ (spelled arguments ++ waiting)
      → bytes ++ more ≡ requests_of xs ++ (spelled arguments ++ (waiting ++ more))
  behind_open xs waiting arguments e =
      behind (requests_of xs) more bytes (spelled arguments ++ waiting) e
      ∙ ap (λ (bs : List ℕ). requests_of xs ++ bs) (append_assoc (spelled arguments) waiting more)

  rests_bytes : (xs : List Exchange) (waiting : List ℕ) (a : Option InFlight) → Rests ops told user xs bytes waiting a
      → Rests ops told user xs (bytes ++ more) (waiting ++ more) a
  rests_bytes xs waiting None h = behind (requests_of xs) more bytes waiting h
  rests_bytes xs waiting (Some (flight.Op a)) h = record {
    arguments = h.arguments;
    op = h.op;
    asks = h.asks;
    taken = h.taken;
    bytes_are = behind_open xs waiting h.arguments h.bytes_are;
  }
  rests_bytes xs waiting (Some (flight.Read r)) h = record {
    arguments = h.arguments;
    asks = h.asks;
    way = h.way;
    bytes_are = behind_open xs waiting h.arguments h.bytes_are;
  }

  pub serving_bytes : (s : Session) → IsServing ops told user bytes replies s
      → IsServing ops told user (bytes ++ more) replies (record s { waiting = s.waiting ++ more })
  serving_bytes s h = record {
    exchanges = h.exchanges;
    each = h.each;
    replies_are = h.replies_are;
    seen = h.seen;
    rests = rests_bytes h.exchanges s.waiting s.asked h.rests;
  }

-- ---- a connection is over

module _ (ops : List Taken) (told : List Heard) (user : ℕ) (bytes : List ℕ) (replies : List (List ℕ)) where
  left_over : (xs : List Exchange) (waiting : List ℕ) (a : Option InFlight) → Rests ops told user xs bytes waiting a
      → (rest : List ℕ) × (bytes ≡ requests_of xs ++ rest)
  left_over xs waiting None h = (waiting, h)
  left_over xs waiting (Some (flight.Op a)) h = (spelled h.arguments ++ waiting, h.bytes_are)
  left_over xs waiting (Some (flight.Read r)) h = (spelled h.arguments ++ waiting, h.bytes_are)

  pub served_end : (s : Session) (end : List (List ℕ)) → IsEnd end → IsServing ops told user bytes replies s
      → IsServed ops told user bytes (replies ++ end)
  served_end s end is h =
      let l = left_over h.exchanges s.waiting s.asked h.rests in
      record {
        exchanges = h.exchanges;
        rest = l.0;
        end_ = end;
        requests = l.1;
        each = h.each;
        replies_are = ap (λ (rs : List (List ℕ)). rs ++ end) h.replies_are;
        ends = is;
      }

-- ---- an answer

pub own_reply : (user : ℕ) (bytes : List ℕ) → replies_to user (Reply user bytes ∷ []) ≡ bytes ∷ []
own_reply user bytes = ap (λ (b : Bool). reply_if b bytes ++ []) (eq-eqb user user refl)

module _ (ops : List Taken) (told : List Heard) (user slot ticket : ℕ) (result : List ℕ) (is : IsResult told ticket slot result)
    (bytes : List ℕ) (replies : List (List ℕ)) where
  answer_open : (s : Session) (a : Option InFlight) → s.asked ≡ a → awaits a ticket ≡ true → (xs : List Exchange)
      → AreReplied ops told user 0 0 xs → replies ≡ replies_of xs → s.seen ≡ greatest 0 xs → Rests ops told user xs bytes s.waiting a
      → IsServing ops told user bytes (replies ++ form_reply a result ∷ []) (record s { asked = None; seen = max s.seen slot })
  answer_open s None e aw xs each replies_are seen rests = absurd (true≢false (sym aw))
  answer_open s (Some (flight.Read r)) e aw xs each replies_are seen rests = absurd (true≢false (sym aw))
  answer_open s (Some (flight.Op a)) e aw xs each replies_are seen rests =
      let same : a.ticket ≡ ticket = eqb-true a.ticket ticket aw in
      let x : Exchange = record { arguments = rests.arguments; ticket = Some ticket; slot = slot; reply = reply_to a.form result } in
      let answer : IsAnswered ops told user rests.op a.form ticket slot (reply_to a.form result) = record {
        taken = ap (slice_get ops) (sym same) ∙ rests.taken;
        result = result;
        accepted = is;
        replied = refl;
      } in
      let end = end_of (ends_of 0 xs) x in
      let replied : IsReplied ops told user (greatest 0 xs) end (asked rests.arguments) (Some ticket) slot (reply_to a.form result) =
      subst (λ (c : Action). IsReplied ops told user (greatest 0 xs) end c (Some ticket) slot (reply_to a.form result)) (sym rests.asks) answer in
      serving_push ops told user xs x bytes s.waiting replies each replied rests.bytes_are replies_are (max s.seen slot)
      (ap (λ (n : ℕ). max n slot) seen)

  pub serving_answered : (s : Session) (b : Bool) → awaits s.asked ticket ≡ b → IsServing ops told user bytes replies s
      → IsServing ops told user bytes (replies ++ replies_to user (answered_if b user slot s result).1) (answered_if b user slot s result).0
  serving_answered s true e h =
      subst (λ (rs : List (List ℕ)). IsServing ops told user bytes (replies ++ rs) (record s { asked = None; seen = max s.seen slot }))
      (sym (own_reply user (form_reply s.asked result)))
      (answer_open s s.asked refl e h.exchanges h.each h.replies_are h.seen h.rests)
  serving_answered s false e h =
      subst (λ (rs : List (List ℕ)). IsServing ops told user bytes rs s) (sym (append-nil replies)) h

-- ---- reads

-- what was asked for later was asked for after fewer bytes too
asked_after : (told : List Heard) (core id observer : ℕ) (key : List ℕ) (end_ late : ℕ) → end_ ≤ late → IsAsked told core id observer key late
    → IsAsked told core id observer key end_
asked_after told core id observer key end late below h =
    let after_late = h.after_ in
    record { client = h.client; ticket = h.ticket; slot = h.slot; sent = h.sent; after_ = omega (arith, below, after_late); has = h.has }

ends_are : (start : ℕ) (xs : List Exchange) → ends_of start xs ≡ start + length (requests_of xs)
ends_are start [] = omega arith
ends_are start (x ∷ xs) =
    let rest = ends_are (end_of start x) xs in
    let all = length-append (spelled x.arguments) (requests_of xs) in
    omega (arith, rest, all)

-- all bytes of a request that was read have come
have_come : (xs : List Exchange) (arguments : List (List ℕ)) (bytes waiting : List ℕ) → bytes ≡ requests_of xs ++ (spelled arguments ++ waiting)
    → ends_of 0 xs + length (spelled arguments) ≤ length bytes
have_come xs arguments bytes waiting e =
    let ends = ends_are 0 xs in
    let all = ap (λ (bs : List ℕ). length bs) e ∙ length-append (requests_of xs) (spelled arguments ++ waiting) in
    let last = length-append (spelled arguments) waiting in
    omega (arith, ends, all, last)

-- where its bytes end
pub end_by : (xs : List Exchange) (arguments : List (List ℕ)) (bytes waiting : List ℕ) → bytes ≡ requests_of xs ++ (spelled arguments ++ waiting)
    → length bytes - length waiting ≡ ends_of 0 xs + length (spelled arguments)
end_by xs arguments bytes waiting e =
    let ends = ends_are 0 xs in
    let all = ap (λ (bs : List ℕ). length bs) e ∙ length-append (requests_of xs) (spelled arguments ++ waiting) in
    let last = length-append (spelled arguments) waiting in
    omega (arith, ends, all, last)

-- another state of what is in flight, of which the same holds
serving_asked : (ops : List Taken) (told : List Heard) (user : ℕ) (bytes : List ℕ) (replies : List (List ℕ)) (s : Session) (a : Option InFlight)
    → ((xs : List Exchange) → Rests ops told user xs bytes s.waiting s.asked → Rests ops told user xs bytes s.waiting a)
    → IsServing ops told user bytes replies s → IsServing ops told user bytes replies (record s { asked = a })
serving_asked ops told user bytes replies s a f h = record {
  exchanges = h.exchanges;
  each = h.each;
  replies_are = h.replies_are;
  seen = h.seen;
  rests = f h.exchanges h.rests;
}

module _ (ops : List Taken) (told : List Heard) (user : ℕ) (bytes : List ℕ) where
  -- a core asked for this key, now
  begun_way : (r : reads.Reading) (way : UnderWay) (key : List ℕ) (end_ : ℕ) → IsAsked told way.core way.id way.observer key (length bytes)
      → end_ ≤ length bytes → (b : Bool) → same_key r.key key ≡ b → IsWay told r.key end_ r.under_way
      → IsWay told r.key end_ (begun_if b r way).under_way
  begun_way r way key end is late true e h =
      subst (λ (k : List ℕ). IsAsked told way.core way.id way.observer k end) (sym (same_text r.key key (sym e)))
      (asked_after told way.core way.id way.observer key end (length bytes) late is)
  begun_way r way key end is late false e h = h

  begun_open : (r : reads.Reading) (way : UnderWay) (b : Bool) (xs : List Exchange) (waiting : List ℕ)
      → (h : IsOpenRead told xs bytes waiting r)
      → IsWay told r.key (ends_of 0 xs + length (spelled h.arguments)) (begun_if b r way).under_way
      → IsOpenRead told xs bytes waiting (begun_if b r way)
  begun_open r way true xs waiting h w = record { arguments = h.arguments; asks = h.asks; way = w; bytes_are = h.bytes_are }
  begun_open r way false xs waiting h w = h

  rests_begun : (way : UnderWay) (key : List ℕ) → IsAsked told way.core way.id way.observer key (length bytes) → (a : Option InFlight)
      → (xs : List Exchange) (waiting : List ℕ) → Rests ops told user xs bytes waiting a → Rests ops told user xs bytes waiting (begun a way key)
  rests_begun way key is None xs waiting h = h
  rests_begun way key is (Some (flight.Op a)) xs waiting h = h
  rests_begun way key is (Some (flight.Read r)) xs waiting h =
      let end = ends_of 0 xs + length (spelled h.arguments) in
      begun_open r way (same_key r.key key) xs waiting h
      (begun_way r way key end is (have_come xs h.arguments bytes waiting h.bytes_are) (same_key r.key key) refl h.way)

  rests_unread : (a : Option InFlight) (xs : List Exchange) (waiting : List ℕ) → Rests ops told user xs bytes waiting a
      → Rests ops told user xs bytes waiting (unread a)
  rests_unread None xs waiting h = h
  rests_unread (Some (flight.Op a)) xs waiting h = h
  rests_unread (Some (flight.Read r)) xs waiting h = record { arguments = h.arguments; asks = h.asks; way = tt; bytes_are = h.bytes_are }

  pub serving_begun : (replies : List (List ℕ)) (s : Session) (way : UnderWay) (key : List ℕ)
      → IsAsked told way.core way.id way.observer key (length bytes)
      → IsServing ops told user bytes replies s → IsServing ops told user bytes replies (record s { asked = begun s.asked way key })
  serving_begun replies s way key is h =
      serving_asked ops told user bytes replies s (begun s.asked way key) (λ xs. rests_begun way key is s.asked xs s.waiting) h

  pub serving_unread : (replies : List (List ℕ)) (s : Session) → IsServing ops told user bytes replies s
      → IsServing ops told user bytes replies (record s { asked = unread s.asked })
  serving_unread replies s h =
      serving_asked ops told user bytes replies s (unread s.asked) (λ xs. rests_unread s.asked xs s.waiting) h

-- the core that has it under way is this one
same_way : (told : List Heard) (key : List ℕ) (end_ : ℕ) (o : Option UnderWay) (way : UnderWay) → is_way o way ≡ true → IsWay told key end_ o
    → IsAsked told way.core way.id way.observer key end_
same_way told key end None way e h = absurd (true≢false (sym e))
same_way told key end (Some w) way e h =
    let p = and_parts (w.core == way.core) ((w.id == way.id) && (w.observer == way.observer)) e in
    let q = and_parts (w.id == way.id) (w.observer == way.observer) p.1 in
    let core : w.core ≡ way.core = eqb-true w.core way.core p.0 in
    let id : w.id ≡ way.id = eqb-true w.id way.id q.0 in
    let observer : w.observer ≡ way.observer = eqb-true w.observer way.observer q.1 in
    subst (λ (c : ℕ). IsAsked told c way.id way.observer key end) core
    (subst (λ (i : ℕ). IsAsked told w.core i way.observer key end) id (subst (λ (o : ℕ). IsAsked told w.core w.id o key end) observer h))

-- a core was answered this result from this position
pub record IsAnswer (told : List Heard) (way : UnderWay) (position : ℕ) (result : List ℕ) : Type 0 where
  pub client : ℕ
  pub ticket : Option ℕ
  pub reply_slot : ℕ
  pub sent : ℕ
  pub has : Has told (ByDesk (record { core = way.core; ticket = ticket; out = outs.Answered client way.id way.observer position result }) reply_slot sent)

-- a read in flight is replied a result from a position that is not too old
module _ (ops : List Taken) (told : List Heard) (user : ℕ) (position : ℕ) (result : List ℕ) (bytes : List ℕ) (replies : List (List ℕ)) where
  replied_open : (s : Session) (r : reads.Reading) → s.seen ≤ position → (xs : List Exchange)
      → AreReplied ops told user 0 0 xs → replies ≡ replies_of xs → s.seen ≡ greatest 0 xs → (rests : IsOpenRead told xs bytes s.waiting r)
      → IsRead told r.key (ends_of 0 xs + length (spelled rests.arguments)) position (reply_to Value result)
      ⊎ IsNearRead told r.key (ends_of 0 xs + length (spelled rests.arguments)) position (reply_to Value result)
      → IsServing ops told user bytes (replies ++ reply_to Value result ∷ []) (record s { asked = None; seen = position })
  replied_open s r fresh xs each replies_are seen rests read =
      let x : Exchange = record { arguments = rests.arguments; ticket = None; slot = position; reply = reply_to Value result } in
      let end = end_of (ends_of 0 xs) x in
      let above : greatest 0 xs ≤ position = subst (λ (n : ℕ). n ≤ position) seen fresh in
      let replied : IsReplied ops told user (greatest 0 xs) end (asked rests.arguments) None position (reply_to Value result) =
      subst (λ (c : Action). IsReplied ops told user (greatest 0 xs) end c None position (reply_to Value result)) (sym rests.asks)
      (inr (record { read = read; fresh = above })) in
      serving_push ops told user xs x bytes s.waiting replies each replied rests.bytes_are replies_are position
      (max_above (greatest 0 xs) position above)

module _ (ops : List Taken) (told : List Heard) (user : ℕ) (way : UnderWay) (position : ℕ) (result : List ℕ) (is : IsAnswer told way position result)
    (bytes : List ℕ) (replies : List (List ℕ)) where
  read_open : (s : Session) (a : Option InFlight) → s.asked ≡ a → reads_by a way ≡ true → s.seen ≤ position → (xs : List Exchange)
      → AreReplied ops told user 0 0 xs → replies ≡ replies_of xs → s.seen ≡ greatest 0 xs → Rests ops told user xs bytes s.waiting a
      → IsServing ops told user bytes (replies ++ reply_to Value result ∷ []) (record s { asked = None; seen = position })
  read_open s None e by fresh xs each replies_are seen rests = absurd (true≢false (sym by))
  read_open s (Some (flight.Op a)) e by fresh xs each replies_are seen rests = absurd (true≢false (sym by))
  read_open s (Some (flight.Read r)) e by fresh xs each replies_are seen rests =
      let end = ends_of 0 xs + length (spelled rests.arguments) in
      let read : IsRead told r.key end position (reply_to Value result) = record {
        core = way.core;
        id = way.id;
        observer = way.observer;
        asks = same_way told r.key end r.under_way way by rests.way;
        client = is.client;
        ticket = is.ticket;
        reply_slot = is.reply_slot;
        sent = is.sent;
        result = result;
        answers = is.has;
        replied = refl;
      } in
      replied_open ops told user position result bytes replies s r fresh xs each replies_are seen rests (inl read)

  fresh_or_not : (s : Session) (b : Bool) → reads_by s.asked way ≡ true → nat_le s.seen position ≡ b → IsServing ops told user bytes replies s
      → IsServing ops told user bytes (replies ++ replies_to user (fresh_if b user position s result).1) (fresh_if b user position s result).0
  fresh_or_not s true by e h =
      subst (λ (rs : List (List ℕ)). IsServing ops told user bytes (replies ++ rs) (record s { asked = None; seen = position }))
      (sym (own_reply user (reply_to Value result)))
      (read_open s s.asked refl by (leb-true s.seen position e) h.exchanges h.each h.replies_are h.seen h.rests)
  fresh_or_not s false by e h =
      subst (λ (rs : List (List ℕ)). IsServing ops told user bytes rs (record s { asked = unread s.asked })) (sym (append-nil replies))
      (serving_unread ops told user bytes replies s h)

  pub serving_read : (s : Session) (b : Bool) → reads_by s.asked way ≡ b → IsServing ops told user bytes replies s
      → IsServing ops told user bytes (replies ++ replies_to user (read_answer_if b user position s result).1)
      (read_answer_if b user position s result).0
  serving_read s true e h = fresh_or_not s (nat_le s.seen position) e refl h
  serving_read s false e h =
      subst (λ (rs : List (List ℕ)). IsServing ops told user bytes rs s) (sym (append-nil replies)) h

-- ---- reads at the near observer

key_is : (o : Option UnderWay) (k key : List ℕ) → key_if o k ≡ Some key → k ≡ key
key_is None k key e = let h : Some k ≡ Some key = e in cc
key_is (Some way) k key e = absurd (let h : None ≡ Some key = e in cc)

-- it is looked at, now
module _ (ops : List Taken) (told : List Heard) (user : ℕ) (near : Machine Observer) (key : List ℕ) (bytes : List ℕ)
    (looks : Has told (OfNear near (length bytes))) (replies : List (List ℕ)) where
  abbrev pub near_position : ℕ
  near_position = (near_answer near key).position

  abbrev pub near_result : List ℕ
  near_result = (near_answer near key).result

  near_open : (s : Session) (a : Option InFlight) → key_of a ≡ Some key → s.seen ≤ near_position → (xs : List Exchange)
      → AreReplied ops told user 0 0 xs → replies ≡ replies_of xs → s.seen ≡ greatest 0 xs → Rests ops told user xs bytes s.waiting a
      → IsServing ops told user bytes (replies ++ reply_to Value near_result ∷ []) (record s { asked = None; seen = near_position })
  near_open s None k fresh xs each replies_are seen rests = absurd (let e : None ≡ Some key = k in cc)
  near_open s (Some (flight.Op a)) k fresh xs each replies_are seen rests = absurd (let e : None ≡ Some key = k in cc)
  near_open s (Some (flight.Read r)) k fresh xs each replies_are seen rests =
      let end = ends_of 0 xs + length (spelled rests.arguments) in
      let read : IsNearRead told key end near_position (reply_to Value near_result) = record {
        near = near;
        sent = length bytes;
        after_ = have_come xs rests.arguments bytes s.waiting rests.bytes_are;
        looks = looks;
        position_is = refl;
        replied = refl;
      } in
      replied_open ops told user near_position near_result bytes replies s r fresh xs each replies_are seen rests
      (inr (subst (λ (c : List ℕ). IsNearRead told c end near_position (reply_to Value near_result)) (sym (key_is r.under_way r.key key k)) read))

  pub serving_near : (s : Session) (b : Bool) → key_of s.asked ≡ Some key → nat_le s.seen near_position ≡ b
      → IsServing ops told user bytes replies s
      → IsServing ops told user bytes (replies ++ replies_to user (fresh_if b user near_position s near_result).1)
      (fresh_if b user near_position s near_result).0
  serving_near s true k e h =
      subst (λ (rs : List (List ℕ)). IsServing ops told user bytes (replies ++ rs) (record s { asked = None; seen = near_position }))
      (sym (own_reply user (reply_to Value near_result)))
      (near_open s s.asked k (leb-true s.seen near_position e) h.exchanges h.each h.replies_are h.seen h.rests)
  serving_near s false k e h =
      subst (λ (rs : List (List ℕ)). IsServing ops told user bytes rs (record s { asked = unread s.asked })) (sym (append-nil replies))
      (serving_unread ops told user bytes replies s h)

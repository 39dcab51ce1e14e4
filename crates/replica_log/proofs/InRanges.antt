-- A log stays in its ranges, kept whole or trimmed.
use Rattle.std.proofs.Common.{◌≡◌, ℕ, zero, suc, ◌<◌, ◌≤◌, Bool, true, false, cond, List, [], ◌∷◌, ◌++◌, length, take, drop, max, arith}
use Rattle.std.proofs.Common.{length-append, length-take}
use Rattle.std.specs.List.{AllByRecursion}
use Rattle.std.specs.Prelude.{◌-◌, nat_lt, slice_set}
use Rattle.std.proofs.lemmas.Bool.{and_parts, ltb-true}
use Rattle.nop_types.specs.declared.limits.TheConstants.{MAX_SLOTS, MAX_LENGTH}
use Rattle.nop_types.specs.declared.request.Entry.{Entry}
use Rattle.nop_types.specs.declared.request.Entry.TheVariants.{NoOp}
use Rattle.nop_types.specs.Logs.{Log, Keeping, Whole, Trimmed, place_of, length_of, unsynced, has_room, above, upto, further, first, appended, with_noop, adopted, overlaid}
use Rattle.nop_types.specs.Ranges.{EntryFits, CheckpointIsIn, LogIsIn}
use Rattle.nop_types.specs.Slots.{set_slot, laid}
use Rattle.lemmas.proofs.Prefixes.{all-take, all-drop}
use Rattle.lemmas.proofs.Slots.{length-set_slot}
use Rattle.replica_log.proofs.Adopted.{adopted_point, length-adopted, length-trimmed_adopted, length-overlaid, length-trimmed_overlaid}

each-push : (l : List Entry) (e : Entry) → AllByRecursion EntryFits l → EntryFits e → AllByRecursion EntryFits (l ++ e ∷ [])
each-push [] e h fits = (fits, tt)
each-push (x ∷ l) e h fits = (h.0, each-push l e h.1 fits)

each-place : (l : List Entry) (i : ℕ) (e : Entry) → AllByRecursion EntryFits l → EntryFits e → AllByRecursion EntryFits (slice_set l i e)
each-place [] i e h fits = tt
each-place (x ∷ l) zero e h fits = (fits, h.1)
each-place (x ∷ l) (suc i) e h fits = (h.0, each-place l i e h.1 fits)

each-set : (l : List Entry) (k : ℕ) (e : Entry) → AllByRecursion EntryFits l → EntryFits e → AllByRecursion EntryFits (set_slot l k e)
each-set l zero e h fits = h
each-set l (suc i) e h fits = each-place l i e h fits

each-laid : (l k : List Entry) → AllByRecursion EntryFits l → AllByRecursion EntryFits k → AllByRecursion EntryFits (laid l k)
each-laid [] k h g = g
each-laid (x ∷ l) [] h g = h
each-laid (x ∷ l) (y ∷ k) h g = (h.0, each-laid l k h.1 g.1)

each-both : (k l : List Entry) → AllByRecursion EntryFits k → AllByRecursion EntryFits l → AllByRecursion EntryFits (k ++ l)
each-both [] l h g = g
each-both (x ∷ k) l h g = (h.0, each-both k l h.1 g)

-- ---- what becomes of a log

-- by what room it had
push_fits : (k : Keeping) (l : Log) (e : Entry) → LogIsIn k l → EntryFits e → unsynced k l < MAX_SLOTS → length_of k l < MAX_LENGTH
    → LogIsIn k (appended l e)
push_fits Whole l e h fits room limit =
    let len = length-append l.entries (e ∷ []) in
    let point = h.point in
    record {
      entries = each-push l.entries e h.entries fits;
      room = omega (arith, len, room);
      limit = omega (arith, len, limit);
      point = omega (arith, len, point);
      checkpoint = h.checkpoint;
    }
push_fits Trimmed l e h fits room limit =
    let len = length-append l.entries (e ∷ []) in
    record {
      entries = each-push l.entries e h.entries fits;
      room = omega (arith, len, room);
      limit = omega (arith, len, limit);
      point = omega arith;
      checkpoint = h.checkpoint;
    }

pub append_fits : (k : Keeping) (l : Log) (e : Entry) → LogIsIn k l → EntryFits e → has_room k l ≡ true → LogIsIn k (appended l e)
append_fits k l e h fits room =
    let both = and_parts (nat_lt (unsynced k l) MAX_SLOTS) (nat_lt (length_of k l) MAX_LENGTH) room in
    push_fits k l e h fits (ltb-true (unsynced k l) MAX_SLOTS both.0) (ltb-true (length_of k l) MAX_LENGTH both.1)

-- the entries of a log become as many others
as_many : (k : Keeping) (l : Log) (entries : List Entry) → length entries ≡ length l.entries → AllByRecursion EntryFits entries
    → LogIsIn k l → LogIsIn k (record l { entries = entries })
as_many Whole l entries len each h =
    let room = h.room in
    let limit = h.limit in
    let point = h.point in
    record {
      entries = each;
      room = omega (arith, len, room);
      limit = omega (arith, len, limit);
      point = omega (arith, len, point);
      checkpoint = h.checkpoint;
    }
as_many Trimmed l entries len each h =
    let room = h.room in
    let limit = h.limit in
    record {
      entries = each;
      room = omega (arith, len, room);
      limit = omega (arith, len, limit);
      point = omega arith;
      checkpoint = h.checkpoint;
    }

pub noop_fits : (k : Keeping) (l : Log) (n : ℕ) → LogIsIn k l → LogIsIn k (with_noop k l n)
noop_fits k l n h =
    let place = place_of k l n in
    as_many k l (set_slot l.entries place NoOp) (length-set_slot l.entries place NoOp) (each-set l.entries place NoOp h.entries tt) h

pub raise_fits : (l : Log) (n : ℕ) → LogIsIn Whole l → l.sync_point ≤ n → n ≤ length l.entries
    → LogIsIn Whole (record l { sync_point = n })
raise_fits l n h low within =
    let room = h.room in
    record {
      entries = h.entries;
      room = omega (arith, room, low);
      limit = h.limit;
      point = within;
      checkpoint = h.checkpoint;
    }

pub first_fits : (k : Keeping) (l : Log) (n : ℕ) → LogIsIn k l → l.sync_point ≤ n → LogIsIn k (first k l n)
first_fits Whole l n h within =
    let len = length-take n l.entries in
    let room = h.room in
    let limit = h.limit in
    let point = h.point in
    record {
      entries = all-take EntryFits n l.entries h.entries;
      room = omega (arith, len, room);
      limit = omega (arith, len, limit);
      point = omega (arith, len, point, within);
      checkpoint = h.checkpoint;
    }
first_fits Trimmed l n h within =
    let len = length-take (n - l.sync_point) l.entries in
    let room = h.room in
    let limit = h.limit in
    record {
      entries = all-take EntryFits (n - l.sync_point) l.entries h.entries;
      room = omega (arith, len, room);
      limit = omega (arith, len, limit);
      point = omega arith;
      checkpoint = h.checkpoint;
    }

-- ---- another log comes in

further_each : (k : Keeping) (new own : Log) (b : Bool) → LogIsIn k new → LogIsIn k own → AllByRecursion EntryFits (cond b new own).entries
further_each k new own true h g = h.entries
further_each k new own false h g = g.entries

further_checkpoint : (k : Keeping) (new own : Log) (b : Bool) → LogIsIn k new → LogIsIn k own
    → CheckpointIsIn k (cond b new own).sync_point (cond b new own).checkpoint
further_checkpoint k new own true h g = h.checkpoint
further_checkpoint k new own false h g = g.checkpoint

each-upto : (k : Keeping) (new own : Log) → LogIsIn k new → LogIsIn k own
    → let f : Log = further new own in AllByRecursion EntryFits (upto k f f.sync_point)
each-upto k new own h g =
    let f : Log = further new own in
    all-take EntryFits (place_of k f f.sync_point) f.entries (further_each k new own (nat_lt own.sync_point new.sync_point) h g)

-- by its length: with the greater of two sync points, it is as long as one of the two logs, or ends at the own sync point
further_fits : (k : Keeping) (new own : Log) (entries : List Entry) → LogIsIn k new → LogIsIn k own → AllByRecursion EntryFits entries
    → let l : Log = record (further new own) { entries = entries } in
    max own.sync_point new.sync_point ≤ length_of k l → length_of k l ≤ max (length_of k own) (length_of k new) → LogIsIn k l
further_fits k new own entries h g each low high =
    let point = adopted_point new own in
    let room = h.room in
    let own_room = g.room in
    let limit = h.limit in
    let own_limit = g.limit in
    record {
      entries = each;
      room = omega (arith, point, high, room, own_room);
      limit = omega (arith, high, limit, own_limit);
      point = omega (arith, point, low);
      checkpoint = further_checkpoint k new own (nat_lt own.sync_point new.sync_point) h g;
    }

pub length-adopted_in : (k : Keeping) (new own : Log) → LogIsIn k new → LogIsIn k own
    → length_of k (adopted k new own) ≡ max own.sync_point (length_of k new)
length-adopted_in Whole new own h g = length-adopted new own g.point h.point
length-adopted_in Trimmed new own h g = length-trimmed_adopted new own

pub length-overlaid_in : (k : Keeping) (new own : Log) → LogIsIn k new → LogIsIn k own
    → length_of k (overlaid k new own) ≡ max (length_of k own) (length_of k new)
length-overlaid_in Whole new own h g = length-overlaid new own g.point h.point
length-overlaid_in Trimmed new own h g = length-trimmed_overlaid new own

pub adopt_fits : (k : Keeping) (new own : Log) → LogIsIn k new → LogIsIn k own → LogIsIn k (adopted k new own)
adopt_fits k new own h g =
    let f : Log = further new own in
    let len = length-adopted_in k new own h g in
    let point = h.point in
    let own_point = g.point in
    further_fits k new own (upto k f f.sync_point ++ above k new f.sync_point) h g
    (each-both (upto k f f.sync_point) (above k new f.sync_point) (each-upto k new own h g)
    (all-drop EntryFits (place_of k new f.sync_point) new.entries h.entries)) (omega (arith, len, point)) (omega (arith, len, own_point))

pub overlay_fits : (k : Keeping) (new own : Log) → LogIsIn k new → LogIsIn k own → LogIsIn k (overlaid k new own)
overlay_fits k new own h g =
    let f : Log = further new own in
    let len = length-overlaid_in k new own h g in
    let point = h.point in
    let own_point = g.point in
    let over = laid (above k new f.sync_point) (above k own f.sync_point) in
    further_fits k new own (upto k f f.sync_point ++ over) h g
    (each-both (upto k f f.sync_point) over (each-upto k new own h g)
    (each-laid (above k new f.sync_point) (above k own f.sync_point)
    (all-drop EntryFits (place_of k new f.sync_point) new.entries h.entries) (all-drop EntryFits (place_of k own f.sync_point) own.entries g.entries)))
    (omega (arith, len, point, own_point)) (omega (arith, len))

use Rattle.std.proofs.Common.{refl}
use Rattle.std.proofs.lemmas.Option.{slice_get_read}
use Rattle.joined_orders.proofs.split.note.Goals as goal

pub returns : goal.returns
returns c = record {
  former = c.index_mut.result.now;
  latter = record { name = c.index_mut.result.now.name; places = c.push.new.self };
  there = slice_get_read c.args.parts.now.items _ c.args.number c.index_mut.result.now refl c.requires c.index_mut.ensures.value;
  name_stays = refl;
  more = c.in_ok-push.ensures.items;
  new_is = refl;
}

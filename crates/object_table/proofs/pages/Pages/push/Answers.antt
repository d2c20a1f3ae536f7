use Rattle.std.proofs.Common.{refl, arith}
use Rattle.object_table.proofs.Paging.{page_of_room, room_in_all, place_within, put_keeps, pushed_is}
use Rattle.object_table.proofs.pages.Pages.push.Goals as goal

pub index_mut-page-requires : goal.index_mut-page-requires
index_mut-page-requires c = omega (arith, c.self.inside.pages.ok.0, page_of_room c.self.inside.pages.items c.self.inside.count c.self.invariant (rw (← c.self.view_is) at c.requires.room))

pub put-requires : goal.put-requires
put-requires c =
    place_within c.self.inside.pages.items c.self.inside.count c.self.inside.count c.index_mut-page.result.now c.self.invariant
    (room_in_all c.self.inside.pages.items c.self.inside.count (rw (← c.self.view_is) at c.requires.room)) c.index_mut-page.ensures.value

pub invariant_of-self : goal.invariant_of-self
invariant_of-self c =
    let h = room_in_all c.self.inside.pages.items c.self.inside.count (rw (← c.self.view_is) at c.requires.room) in
    rw c.put.ensures
    (put_keeps c.self.inside.pages.items c.self.inside.count c.self.inside.count c.index_mut-page.result.now c.self.invariant h
    c.index_mut-page.ensures.value _ c.args.value (omega (arith, h)))

pub returns : goal.returns
returns c =
    let h = room_in_all c.self.inside.pages.items c.self.inside.count (rw (← c.self.view_is) at c.requires.room) in
    rw (← c.self.view_is, c.put.ensures)
    (pushed_is c.self.inside.pages.items c.self.inside.count c.self.inside.count c.index_mut-page.result.now c.self.invariant h
    c.index_mut-page.ensures.value c.args.value refl)

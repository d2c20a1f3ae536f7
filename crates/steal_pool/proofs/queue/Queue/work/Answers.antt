use Rattle.std.proofs.Common.{arith, ◌++◌, ◌∙◌, ap, drop, length, length-append}
use Rattle.std.proofs.lemmas.List.{drop-append-le, length-drop}
use Rattle.steal_pool.proofs.queue.Queue.work.Goals as goal

pub work-requires : goal.work-requires
work-requires g c =
    let seen = ap (λ w. w.spare) c.self.view_is in
    let few = c.self.invariant.1 in
    let spare = c.requires.spare in
    record { turns = c.requires.turns; ready = c.requires.ready; fit = c.requires.fit; spare = omega arith }

pub returns : goal.returns
returns g c =
    let next = c.self.inside.next in
    let came = c.self.inside.came.tasks in
    let puts = c.work.ensures.puts in
    let more = puts.put in
    let first = c.self.invariant.0 in
    let few = c.self.invariant.1 in
    let waited = ap (λ w. w.tasks) c.self.view_is in
    let seen = ap (λ w. w.spare) c.self.view_is in
    let all = ap length puts.tasks ∙ length-append came more in
    let were = ap length waited in
    let left = length-drop next came in
    let wait = length-drop next c.work.new.out.tasks in
    let room = c.work.ensures.outbox in
    let fewer = puts.room in
    let spare = c.requires.spare in
    record {
      puts = record {
        put = more;
        tasks = ap (drop next) puts.tasks ∙ (drop-append-le next came more first ∙ ap (λ ts. ts ++ more) waited);
        works = puts.works;
        are_fit = puts.are_fit;
        room = puts.room;
      };
      spare = omega arith;
      room = room ∙ ap (λ w. w.room) c.self.view_is;
      ready = c.work.ensures.ready;
      fit = c.work.ensures.fit;
      turns = c.work.ensures.turns;
    }

use Rattle.std.proofs.Common.{◌+◌, ◌-◌, refl, ap, arith, Ok, Some, []}
use Rattle.trace_reader.specs.Cuts.{IsLine}
use Rattle.trace_reader.specs.Cutter.{CutterState}
use Rattle.trace_reader.proofs.Steps.{step_of_cut, gives_line, reads_nothing}
use Rattle.trace_reader.proofs.cutter.LineCutter.next_known.Goals as goal

pub returns : goal.returns
returns c =
    let old = c.args.self.now in
    let limit = ap (λ (k : CutterState). k.limit) c.self.view_is in
    let given = ap (λ (k : CutterState). k.given) c.self.view_is in
    let line : IsLine old.pending (old.limit - old.given) c.args.bytes = record {
      newline = c.requires.line;
      short = (let short = c.if-bytes-gt-LONGEST_LINE.false in omega (arith, short));
      within = (let within = c.if-bytes-self.false in omega (arith, within, limit, given));
    } in
    rw (c.give.ensures.gives, c.give.ensures.number) (record {
      steps = λ source. step_of_cut _ _ old.pending (Ok (Some (old.lines + 1))) [] c.requires.going refl (reads_nothing old.pending old.at_end source)
          (gives_line _ _ old.pending (old.limit - old.given) c.args.bytes line refl refl refl refl refl c.requires.going);
      line = refl;
      pending = refl;
    })

use Rattle.std.proofs.Common.{◌≡◌, get_or, false, ◌==◌, sym, ap, ne_eqb}
use Rattle.serde_json.specs.Read.{number_of, number_from}
use Rattle.trace_reader.proofs.plain.number_of_digits.Goals as goal

pub returns : goal.returns
unfolding number_of
returns c =
    let s = c.args.bytes.now in
    let no_minus : (get_or s 0 0 == 45) ≡ false = ne_eqb (get_or s 0 0) 45 c.if-bytes-eq45.false in
    let read : number_of s ≡ number_from false c.scan.result = rw no_minus (ap (number_from false) (sym c.scan.ensures.parts)) in
    rw read c.unsigned.ensures

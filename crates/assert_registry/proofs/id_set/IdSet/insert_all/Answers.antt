use Rattle.assert_registry.proofs.IdSet.{sorted-set_of}
use Rattle.assert_registry.proofs.id_set.IdSet.insert_all.Goals as goal

pub returns-in_err-extend_from_slice-clause-rising : goal.returns-in_err-extend_from_slice-clause-rising
returns-in_err-extend_from_slice-clause-rising c = sorted-set_of c.extend_from_slice.new.self.items

pub returns-clause-rising : goal.returns-clause-rising
returns-clause-rising c = sorted-set_of c.extend_from_slice.new.self.items

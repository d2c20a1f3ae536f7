use Rattle.scan_job.proofs.Placing.{is-whole}
use Rattle.scan_job.proofs.laws.a_table_with_roles_is_a_whole_graph.Goals as goal

pub returns : goal.returns
returns c = is-whole

use Rattle.graph_maker.proofs.Values.{summary_of-Some, summary_of-None}
use Rattle.graph_maker.proofs.summary.Summary.add.Goals as goal

pub returns-in-Some-clause-of_list : goal.returns-in-Some-clause-of_list
returns-in-Some-clause-of_list c values was =
    let more = summary_of-Some values c.in-Some.x in
    cc

pub returns-in_default-clause-of_list : goal.returns-in_default-clause-of_list
returns-in_default-clause-of_list c values was =
    let same = summary_of-None values in
    cc

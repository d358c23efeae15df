-- The laws of beginnings of lists.
use Rattle.kpn_lang.proofs.Prefixes.{IsPrefix-refl, IsPrefix-trans, IsPrefix-antisym, rest_of_prefix, IsPrefix-from_rest, prefixes_of_one}
use Rattle.kpn_lang.proofs.laws.prefixes.Goals as goal

pub returns-clause-reflexive : goal.returns-clause-reflexive
returns-clause-reflexive g c = IsPrefix-refl

pub returns-clause-transitive : goal.returns-clause-transitive
returns-clause-transitive g c = IsPrefix-trans

pub returns-clause-antisymmetric : goal.returns-clause-antisymmetric
returns-clause-antisymmetric g c = IsPrefix-antisym

pub returns-clause-rest : goal.returns-clause-rest
returns-clause-rest g c xs ys = (rest_of_prefix xs ys, λ r. IsPrefix-from_rest xs r.0 ys r.1)

pub returns-clause-comparable : goal.returns-clause-comparable
returns-clause-comparable g c = prefixes_of_one

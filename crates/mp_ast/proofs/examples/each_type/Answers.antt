use Rattle.mp_ast.proofs.ProductionExamples.{enumeration_example, signed_subrange_example, set_example, packed_set_example, file_example, packed_file_example}
use Rattle.mp_ast.proofs.ProductionExamples.{packed_array_example, empty_record_example, no_tag_example}
use Rattle.mp_ast.proofs.examples.each_type.Goals as goal

pub returns-clause-enumeration : goal.returns-clause-enumeration
returns-clause-enumeration c = enumeration_example

pub returns-clause-signed_subrange : goal.returns-clause-signed_subrange
returns-clause-signed_subrange c = signed_subrange_example

pub returns-clause-set_type : goal.returns-clause-set_type
returns-clause-set_type c = set_example

pub returns-clause-packed_set : goal.returns-clause-packed_set
returns-clause-packed_set c = packed_set_example

pub returns-clause-file_type : goal.returns-clause-file_type
returns-clause-file_type c = file_example

pub returns-clause-packed_file : goal.returns-clause-packed_file
returns-clause-packed_file c = packed_file_example

pub returns-clause-packed_array : goal.returns-clause-packed_array
returns-clause-packed_array c = packed_array_example

pub returns-clause-empty_record : goal.returns-clause-empty_record
returns-clause-empty_record c = empty_record_example

pub returns-clause-no_tag : goal.returns-clause-no_tag
returns-clause-no_tag c = no_tag_example

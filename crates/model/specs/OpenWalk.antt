-- For sample runs that are computed: `unfolding open_walk` opens every definition that a walk over a listing goes through.
-- Assumes nothing.
use Rattle.type_info.specs.Ascii.{ascii, lower_byte, lowercase, equals, starts_with, contains}
use Rattle.type_info.specs.Kind.{takes, arms, first_arm, from_str, kind_of}
use Rattle.type_info.specs.Utf8.{utf8_char, in_range, begun, after_byte, reads, is_utf8}
use Rattle.model.specs.Walk.{times, take_up, go_on, close_all, begin, known, judge, offer, settle, close, follow_ways, handle_if, turn, walk_on, walk}
use Rattle.model.specs.IntMap.{get, insert, remove, update, numbered, total}
use Rattle.model.specs.State.{entries, as_columns, set_all_nullable}
use Rattle.model.specs.Equality.{eq_column, eq_register, eq_cursor, eq_table, eq_map, eq_state}
use Rattle.model.specs.Cells.{column_cells, register_cells, table_cells, cells, column_depth, register_depth}
use Rattle.model.specs.Access.{index, count_of, judge_depth, judge_cells, read_register, read_cursor, read_columns, store_register, store_cursor, store_table, update_register, update_table, remove_register}
use Rattle.model.specs.TextTable.{first_for}
use Rattle.model.specs.Operation.{operations, operation_of}
use Rattle.model.specs.Functions.{text_of, built_in, function_in, prefixes, aggregate_of}
use Rattle.model.specs.Catalogue.{record_column, is_for, columns_after, columns_at}
use Rattle.model.specs.Results.{result_columns, merge, columns_of}
use Rattle.model.specs.Offer.{row_at}
use Rattle.model.specs.Cursor.{cursor_columns, cursor_is_empty, update_cursor_table, null_columns}
use Rattle.model.specs.JumpArms.{is_null_arm, not_null_arm, if_branch, if_stay, if_arm, rewind_cursor, is_yield, end_coroutine_arm, return_arm, yield_arm, jump_arm}
use Rattle.model.specs.IfPosArm.{if_pos_arm}
use Rattle.model.specs.ResultArm.{result_row_arm}
use Rattle.model.specs.RegisterArms.{low_byte, affinities, affinity_to_type, copy_to, copy_many, move_many, null_many, register_arm}
use Rattle.model.specs.CursorArms.{column_of, opened_columns, insert_record, insert_arm, open_table, cursor_arm}
use Rattle.model.specs.Explain.{arm, ways, space_of, row_of, units}
use Rattle.model.specs.Answer.{outcome_of}

unfoldable pub open_walk : Unit {0}
unfolding ascii lower_byte lowercase equals starts_with contains takes arms first_arm from_str kind_of utf8_char in_range begun after_byte reads is_utf8 times take_up go_on close_all begin known judge offer settle close follow_ways handle_if turn walk_on walk get insert remove update numbered total entries as_columns set_all_nullable eq_column eq_register eq_cursor eq_table eq_map eq_state column_cells register_cells table_cells cells column_depth register_depth index count_of judge_depth judge_cells read_register read_cursor read_columns store_register store_cursor store_table update_register update_table remove_register first_for operations operation_of text_of built_in function_in prefixes aggregate_of record_column is_for columns_after columns_at result_columns merge columns_of row_at cursor_columns cursor_is_empty update_cursor_table null_columns is_null_arm not_null_arm if_branch if_stay if_arm rewind_cursor is_yield end_coroutine_arm return_arm yield_arm jump_arm if_pos_arm result_row_arm low_byte affinities affinity_to_type copy_to copy_many move_many null_many register_arm column_of opened_columns insert_record insert_arm open_table cursor_arm arm ways space_of row_of units outcome_of
open_walk = tt

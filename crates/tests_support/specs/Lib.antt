pub mod CellTasks

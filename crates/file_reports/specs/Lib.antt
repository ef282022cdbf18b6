pub mod GrowthReport
pub mod ReportLaws
pub mod SizeReport
